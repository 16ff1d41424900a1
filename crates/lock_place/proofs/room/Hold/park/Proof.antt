-- One right under another name.
use Rattle.atomic_table.proofs.Names.{◌≡◌, [], ◌∷◌, refl, a_type, Val, inst_fn, SProp, emp, ftrue, ‵, raw, ◌⊛◌, ◌$◌, ◌∵◌, !, qed, by, move, keep, split, fsplit, fjoin, use0, stop, fld, of_opd, no_more, and_then, returns, enter, alloc_all, pass_all, free_all, look_at, get, get_in, sets, agg, sub, whole, tables, no, RattleType, owns, types_at, plain, nothing, param, layouts, alive, Stays, stay_dropped, walk_of, Goes-dropped, fact, fact_i}
use Rattle.atomic_table.proofs.Walks.{proved, leaves}
use Rattle.lock_place.specs.contracts.room.Room as room
use Rattle.lock_place.specs.contracts.room.Hold as hold
use Rattle.lock_place.specs.contracts.room.Parked as parked
use Rattle.lock_place.proofs.Fields.{ParkedData, parked_made}
use Rattle.lock_place.specs.contracts.strip.Strip as strips
use Rattle.lock_place.proofs.Fields.{token_val, hold_told}
use Rattle.lock_place.specs.contracts.room.Hold.park.{ended, clauses}
use Rattle.lock_place.specs.contracts.room.Hold.park.Key.{name as #self}
use Rattle.lock_place.proofs.room.Hold.park.Statement.{statement}
use Rattle.lock_place.proofs.room.Hold.park.Code as code

pub park_spec : {M : Type 1} → statement M
park_spec 𝓤 𝓛 𝓜 𝓡 wired T L =
    let H = 𝓛.H in let A = 𝓛.A in let 𝓣 = tables 𝓤 H 𝓜 𝓡 𝓡.env in let R : RattleType = param 0 T in let En = ended T in let c = clauses T 𝓛 𝓜.mem 𝓡.returns in
    let inst = layouts (a_type ∷ []) (T, tt) in let fn = inst_fn inst code.function in let closed = code.unfolded 𝓤 H 𝓜 𝓡 wired (T, tt) in
    let Row : RattleType = room.the_row R in let Hr : RattleType = hold.the_row R in let Ss : RattleType = strips.the_row R in let Pk : RattleType = parked.the_row R in
    let hs : Stays En.signature.params En.kept = (stay_dropped (plain (λ _. Hr)) no, tt) in
    proved 𝓛 En hs c 𝓜 𝓡 (Goes-dropped 𝓛 1 (plain (λ _. Hr)) no (λ κs x f. refl), tt) (#self inst) fn closed
    (λ κs. ((λ _. token_val ∷ []), tt)) (λ κs. ((λ x vs so. hold_told R vs so.0), tt)) (λ κs qs bounds a gh are.
    let h : Hr.Denot = a.0 in let r : Pk.Denot = record { marker = h.marker; room_id = h.room_id; value = h.value } in let Told : Type 0 = (h.room_id ≡ h.room_id) × (h.value ≡ h.value) in
    let y : (walk_of 𝓛 En hs c).Ghost = ((κs, qs, bounds, a, (token_val ∷ [], tt)), gh) in let Post : Val → SProp 𝓤 = (walk_of 𝓛 En hs c).post y in
    qed 𝓛 ((raw (alive 𝓛 En.signature κs qs) ⊛ ‵ (owns (types_at En.signature.params κs) a y.0.4)) ∷ raw (fact 𝓤 _) ∷ ‵ ftrue ∷ []) ∵
    keep ! (0 ∷ []) $ (split ! $ move ! (1 ∷ []) $ fsplit ! $ fsplit ! $ keep ! (1 ∷ 3 ∷ []) $
    enter ! 𝓣.C 𝓣.Λ fn (token_val ∷ []) Post $ alloc_all ! (λ l. pass_all ! refl ((tt, (tt, tt)), tt) $
    use0 𝓛 (‵ ((ParkedData R).own_val (tt, tt) (token_val ∷ []))) (parked_made R 𝓛) $ fjoin ! $
    sets ! (of_opd ! (get_in ! (fld ! refl (stop !)) (sub ! 0 refl (whole !)))) refl (tt, tt) $ sets ! (agg ! (and_then ! (get ! refl) (no_more !))) refl (tt, (tt, tt)) $
    use0 𝓛 (raw (fact 𝓤 Told)) (fact_i 𝓤 Told (emp 𝓤) (refl, refl)) $ nothing ! $ nothing ! $ fjoin ! $
    returns ! (look_at ! 0 refl) $ free_all ! refl $ keep ! (3 ∷ 0 ∷ 2 ∷ 1 ∷ []) $ by ! (leaves 𝓛 En hs c y token_val r (tt, tt) (tt, tt)))))
