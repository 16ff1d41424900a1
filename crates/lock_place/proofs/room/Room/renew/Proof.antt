-- One age ends, and another begins.
use Rattle.atomic_table.proofs.Names.{◌≡◌, ℕ, List, [], ◌∷◌, refl, a_type, named, Val, vptr, inst_fn, SProp, emp, Fml, ftrue, fsep, flft, ‵, raw, ◌⊛◌, some, later, ◌$◌, ◌∵◌, !, qed, by, move, keep, split, join, fsplit, fsplit3, fjoin, fjoin3, pick, use0, use1, await, feq_i, no_more, and_then, returns, enter, alloc_all, pass_all, free_all, look_at, get, sets, agg, tables, RattleType, owns, types_at, plain, Ptr, nothing, param, layouts, Stays, walk_of, fact, fact_i, mut_vals, mut_Tells}
use Rattle.atomic_table.proofs.Walks.{proved, leaves}
use Rattle.lock_place.specs.Held.{RoomId, room_owns, hold_owns}
use Rattle.lock_place.specs.contracts.room.Room as room
use Rattle.lock_place.specs.contracts.room.Hold as hold
use Rattle.lock_place.proofs.Fields.{token_val, HoldData, hold_made}
use Rattle.atomic_table.proofs.Names.{stay_ref, Goes-ref, opens, closes}
use Rattle.lock_place.proofs.Ages.{renews}
use Rattle.lock_place.specs.contracts.room.Room.renew.{ended, clauses}
use Rattle.lock_place.specs.contracts.room.Room.renew.Key.{name as #self}
use Rattle.lock_place.proofs.room.Room.renew.Statement.{statement}
use Rattle.lock_place.proofs.room.Room.renew.Code as code

pub renew_spec : {M : Type 1} → statement M
renew_spec 𝓤 𝓛 𝓜 𝓡 wired T L =
    let H = 𝓛.H in let 𝓣 = tables 𝓤 H 𝓜 𝓡 𝓡.env in let R : RattleType = param 0 T in let En = ended T in let c = clauses T 𝓛 𝓜.mem 𝓡.returns in
    let inst = layouts (a_type ∷ []) (T, tt) in let fn = inst_fn inst code.function in let closed = code.unfolded 𝓤 H 𝓜 𝓡 wired (T, tt) in
    let Row : RattleType = room.the_row R in let Hr : RattleType = hold.the_row R in let me = plain (λ _. Row) in let hs : Stays En.signature.params En.kept = (stay_ref (0 ∷ []) tt me, tt) in
    proved 𝓛 En hs c 𝓜 𝓡 (Goes-ref 𝓛 2 0 tt me, tt) (#self inst) fn closed
    (λ κs. (mut_vals, tt)) (λ κs. (mut_Tells (named 0) κs.0 Row, tt)) (λ κs qs bounds a gh are.
    let b : ℕ = a.0.ref_ptr.0 in let o : ℕ = a.0.ref_ptr.1 in let t : Row.Denot = a.0.now in let p : Ptr = t.at in let z : RoomId = t.room_id in let others : Fml = fsep (flft κs.1.0 qs.1.0) ftrue in
    let y : (walk_of 𝓛 En hs c).Ghost = ((κs, qs, bounds, a, (vptr b o ∷ [], tt)), gh) in let Post : Val → SProp 𝓤 = (walk_of 𝓛 En hs c).post y in
    qed 𝓛 (((‵ (flft κs.0 qs.0) ⊛ ‵ others) ⊛ ‵ (owns (types_at En.signature.params κs) a y.0.4)) ∷ raw ((c κs a).requires gh) ∷ []) ∵
    split ! $ split ! $ move ! (2 ∷ []) $ fsplit ! $ fsplit3 ! $ keep ! (1 ∷ 2 ∷ 4 ∷ 5 ∷ []) $
    enter ! 𝓣.C 𝓣.Λ fn (vptr b o ∷ []) Post $ alloc_all ! (λ l. pass_all ! refl ((tt, tt), tt) $
    opens ! tt Row b o (λ ts. move ! (1 ∷ []) $ fsplit ! $ move ! (1 ∷ []) $ use1 𝓛 (later (some (λ (w : RoomId × T.Denot). ‵ (room_owns R p w.0) ⊛ ‵ (hold_owns R w.0 w.1)))) (renews 𝓛 R p z) $ await ! tt $ pick ! (λ w. split ! $
    let t' : Row.Denot = record { at = p; room_id = w.0 } in let r : Hr.Denot = record { marker = record {}; room_id = w.0; value = w.1 } in let Told : Type 0 = (w.0 ≡ w.0) × (p ≡ p) in
    move ! (2 ∷ 0 ∷ []) $ fjoin ! $ move ! (2 ∷ 0 ∷ 3 ∷ 4 ∷ 5 ∷ []) $
    closes ! tt Row t' ts b o $ feq_i ! (List Val) (vptr b o ∷ []) (vptr b o ∷ []) refl $ fjoin3 ! $ nothing ! $ move ! (1 ∷ 0 ∷ []) $ fjoin ! $ move ! (1 ∷ 3 ∷ []) $ join ! $ move ! (2 ∷ []) $
    use0 𝓛 (‵ ((HoldData R).own_val (tt, tt) (token_val ∷ []))) (hold_made R 𝓛) $ fjoin ! $
    sets ! (agg ! (no_more !)) refl (tt, tt) $ sets ! (agg ! (and_then ! (get ! refl) (no_more !))) refl (tt, (tt, tt)) $ use0 𝓛 (raw (fact 𝓤 Told)) (fact_i 𝓤 Told (emp 𝓤) (refl, refl)) $
    returns ! (look_at ! 0 refl) $ free_all ! refl $ keep ! (2 ∷ 3 ∷ 1 ∷ 0 ∷ []) $ by ! (leaves 𝓛 En hs c y token_val r (t', tt) (tt, tt))))))
