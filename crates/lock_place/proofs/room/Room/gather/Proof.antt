-- The age ends, and the value comes back.
use Rattle.atomic_table.proofs.Names.{◌≡◌, [], ◌∷◌, length, refl, a_type, Val, inst_fn, SProp, emp, ‵, raw, ◌⊛◌, some, given, later, ◌$◌, ◌∵◌, !, qed, by, move, keep, split, fsplit, fjoin, pick, learn, use0, use1, await, stop, fld, of_opd, no_more, and_then, returns, enter, alloc_all, pass_all, free_all, look_at, get, get_in, sets, agg, sub, whole, tables, no, RattleType, owns, types_at, plain, Ptr, InBlock, nothing, param, layouts, alive, Stays, stay_dropped, walk_of, Goes-dropped, fact, fact_i}
use Rattle.atomic_table.proofs.Walks.{proved, leaves}
use Rattle.atomic_table.specs.Seated.{strip}
use Rattle.lock_place.specs.Held.{RoomId, room_owns}
use Rattle.lock_place.specs.contracts.room.Room as room
use Rattle.lock_place.specs.contracts.room.Hold as hold
use Rattle.lock_place.specs.contracts.strip.Strip as strips
use Rattle.lock_place.proofs.Fields.{strip_of, Ptr-Good, strip_good, StripData, strip_made, room_told}
use Rattle.lock_place.proofs.Ages.{room_lies, gathers}
use Rattle.lock_place.specs.contracts.room.Room.gather.{ended, clauses}
use Rattle.lock_place.specs.contracts.room.Room.gather.Key.{name as #self}
use Rattle.lock_place.proofs.room.Room.gather.Statement.{statement}
use Rattle.lock_place.proofs.room.Room.gather.Code as code

pub gather_spec : {M : Type 1} → statement M
gather_spec 𝓤 𝓛 𝓜 𝓡 wired T L =
    let H = 𝓛.H in let A = 𝓛.A in let 𝓣 = tables 𝓤 H 𝓜 𝓡 𝓡.env in let R : RattleType = param 0 T in let En = ended T in let c = clauses T 𝓛 𝓜.mem 𝓡.returns in
    let inst = layouts (a_type ∷ []) (T, tt) in let fn = inst_fn inst code.function in let closed = code.unfolded 𝓤 H 𝓜 𝓡 wired (T, tt) in
    let Row : RattleType = room.the_row R in let Hr : RattleType = hold.the_row R in let Ss : RattleType = strips.the_row R in
    let hs : Stays En.signature.params En.kept = (stay_dropped (plain (λ _. Row)) no, tt) in
    proved 𝓛 En hs c 𝓜 𝓡 (Goes-dropped 𝓛 1 (plain (λ _. Row)) no (λ κs x f. refl), tt) (#self inst) fn closed
    (λ κs. ((λ x. strip_of x.at ∷ []), tt)) (λ κs. ((λ x vs so. room_told R x.at vs so.0), tt)) (λ κs qs bounds a gh are.
    let p : Ptr = a.0.at in let z : RoomId = a.0.room_id in
    let y : (walk_of 𝓛 En hs c).Ghost = ((κs, qs, bounds, a, (strip_of p ∷ [], tt)), gh) in let Post : Val → SProp 𝓤 = (walk_of 𝓛 En hs c).post y in
    qed 𝓛 ((raw (alive 𝓛 En.signature κs qs) ⊛ ‵ (owns (types_at En.signature.params κs) a y.0.4)) ∷ raw ((c κs a).requires gh) ∷ []) ∵
    split ! $ move ! (1 ∷ []) $ fsplit ! $ fsplit ! $ keep ! (1 ∷ 3 ∷ []) $
    use1 𝓛 (given (InBlock p) (‵ (room_owns R p z))) (room_lies 𝓛 R p z) $ learn ! (λ at.
    enter ! 𝓣.C 𝓣.Λ fn (strip_of p ∷ []) Post $ alloc_all ! (λ l. pass_all ! refl (strip_good p at, tt) $
    use1 𝓛 (later (some (λ (x : T.Denot). ‵ (strip R p (x ∷ []))))) (gathers 𝓛 R p z) $ await ! tt $ pick ! (λ x.
    let r : Ss.Denot = record { ptr = p; items = x ∷ [] } in let A₁ : Type 0 = (p ≡ p) × (length (x ∷ []) ≡ 1) in
    use0 𝓛 (‵ ((StripData R).own_val (p, tt) (strip_of p ∷ []))) (strip_made R 𝓛 p) $ fjoin ! $
    sets ! (of_opd ! (get_in ! (fld ! refl (stop !)) (sub ! 0 refl (whole !)))) refl (Ptr-Good p at) $ sets ! (agg ! (and_then ! (get ! refl) (no_more !))) refl (strip_good p at) $
    use0 𝓛 (raw (fact 𝓤 A₁)) (fact_i 𝓤 A₁ (emp 𝓤) (refl, refl)) $ nothing ! $ nothing ! $ fjoin ! $
    returns ! (look_at ! 0 refl) $ free_all ! refl $ keep ! (3 ∷ 0 ∷ 2 ∷ 1 ∷ []) $ by ! (leaves 𝓛 En hs c y (strip_of p) r (tt, tt) (tt, tt))))))
