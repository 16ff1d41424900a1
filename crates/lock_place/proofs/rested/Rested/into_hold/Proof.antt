-- A parked hold comes out as it is, and a ticket stays with the spare.
use Rattle.atomic_table.proofs.Names.{◌≡◌, ℕ, [], ◌∷◌, refl, a_type, named, Val, vptr, inst_fn, SProp, emp, apply∗, wand, Lft, Share, Fml, ftrue, fsep, flft, ‵, raw, ◌⊛◌, some, later, ◌$◌, ◌∵◌, !, qed, by, move, keep, drop, split, join, fsplit, fsplit3, fjoin, pick, use0, use1, use2, use3, await, rewrite, no_more, and_then, returns, enter, alloc_all, pass_all, free_all, look_at, get, sets, agg, tables, no, yes, RattleType, owns, types_at, plain, block_ptr, nothing, heard, param, layouts, Stays, stay_dropped, walk_of, Goes-dropped, fact, fact_i, RefOf, shr_vals, shr_Tells, unhide, lent_out, hidden_shr}
use types.Kit.{fpick}
use base.Fml.{fhide}
use Rattle.atomic_table.proofs.Walks.{proved, leaves}
use Rattle.core.specs.contracts.marker.PhantomData as marker
use Rattle.std.proofs.Common.{Option}
use Rattle.lock_place.specs.Held.{RoomId, hold_owns}
use Rattle.lock_place.specs.Rests.{IsRightAt}
use Rattle.lock_place.specs.Spared.{spare_shares}
use Rattle.lock_place.specs.contracts.room.Hold as hold
use Rattle.lock_place.specs.contracts.spare.Spare as spare
use Rattle.lock_place.specs.contracts.rested.Rested as rested
use Rattle.lock_place.proofs.Fields.{token_val, rested_told, HoldData, hold_made, SpareData}
use Rattle.lock_place.proofs.Spares.{wakes, woken, known}
use Rattle.atomic_table.proofs.Names.{Lends-one}
use Rattle.lock_place.specs.contracts.rested.Rested.into_hold.{ended, clauses}
use Rattle.lock_place.specs.contracts.rested.Rested.into_hold.Key.{name as #self}
use Rattle.lock_place.proofs.rested.Rested.into_hold.Statement.{statement}
use Rattle.lock_place.proofs.rested.Rested.into_hold.Code as code

pub into_hold_spec : {M : Type 1} → statement M
into_hold_spec 𝓤 𝓛 𝓜 𝓡 wired T L =
    let H = 𝓛.H in let A = 𝓛.A in let 𝓣 = tables 𝓤 H 𝓜 𝓡 𝓡.env in let R : RattleType = param 0 T in let En = ended T in let c = clauses T 𝓛 𝓜.mem 𝓡.returns in
    let inst = layouts (a_type ∷ []) (T, tt) in let fn = inst_fn inst code.function in let closed = code.unfolded 𝓤 H 𝓜 𝓡 wired (T, tt) in
    let Hr : RattleType = hold.the_row R in let Sp : RattleType = spare.the_row R in let Re : RattleType = rested.the_row R in
    let me = plain (λ _. Re) in let at = RefOf (0 ∷ []) tt (plain (λ _. Sp)) (λ _. tt) in let hs : Stays En.signature.params En.kept = (stay_dropped me no, (stay_dropped at yes, tt)) in
    proved 𝓛 En hs c 𝓜 𝓡 (Goes-dropped 𝓛 2 me no (λ κs x f. refl), (Goes-dropped 𝓛 2 at yes (λ κs x f. refl), tt)) (#self inst) fn closed
    (λ κs. ((λ _. token_val ∷ []), (shr_vals, tt))) (λ κs. ((λ x vs so. rested_told R vs so.0), (shr_Tells (named 0) κs.0 Sp, tt))) (λ κs qs bounds a gh are.
    let m : Re.Denot = a.0 in let t : Sp.Denot = a.1.0.now in let b : ℕ = a.1.0.ref_ptr.0 in let o : ℕ = a.1.0.ref_ptr.1 in let κ : Lft = κs.0 in let q : Share = qs.0 in let others : Fml = fsep (flft κs.1.0 qs.1.0) ftrue in
    let z : RoomId = t.room_id in let Asked : Type 0 = IsRightAt z t.deed m.room_id m.value m.deed m.is_ticket × (Rattle.core.specs.Option.is_some t.value ≡ mathlib.Core.Bool.true) in
    let y : (walk_of 𝓛 En hs c).Ghost = ((κs, qs, bounds, a, (token_val ∷ [], (vptr b o ∷ [], tt))), gh) in let Post : Val → SProp 𝓤 = (walk_of 𝓛 En hs c).post y in
    qed 𝓛 (((‵ (flft κ q) ⊛ ‵ others) ⊛ ‵ (owns (types_at En.signature.params κs) a y.0.4)) ∷ raw (fact 𝓤 _) ∷ raw (fact 𝓤 Asked) ∷ []) ∵
    keep ! (2 ∷ 0 ∷ []) $ heard ! Asked (λ asked. let found = known t.value asked.1 in let x : T.Denot = found.0 in split ! $ split ! $ move ! (2 ∷ []) $ fsplit3 ! $ fsplit ! $ move ! (2 ∷ []) $ fsplit ! $ keep ! (1 ∷ 3 ∷ 5 ∷ 6 ∷ []) $
    enter ! 𝓣.C 𝓣.Λ fn (token_val ∷ vptr b o ∷ []) Post $ alloc_all ! (λ l. pass_all ! refl ((tt, (tt, tt)), ((tt, tt), tt)) $
    use1 𝓛 (‵ (hidden_shr (SpareData R) κ (tt, tt) b o) ⊛ ‵ (fhide (spare.the_lent R t (block_ptr b o) κ))) (lent_out 𝓛 (spare.struct R) (spare.the_codes T.Denot R.coded (marker.the_row R).coded) (spare.the_heap R) (spare.the_lent R) κ t b o) $
    split ! $ drop ! $ unhide ! $ rewrite ! 0 (λ (v : Option T.Denot). ‵ (spare_shares R z t.deed v κ)) found.1 refl $ fpick ! (λ κ₀. fsplit ! $ move ! (0 ∷ 3 ∷ []) $
    use2 𝓛 (later (some (λ (s : Share). ‵ (flft κ₀ s) ⊛ raw (wand 𝓤 (A.lft κ₀ s) (H.⇛ (A.lft κ q)))))) (Lends-one 𝓛 𝓜 𝓡 κ κ₀ q) $ await ! tt $ pick ! (λ s. split ! $
    move ! (3 ∷ []) $ move ! (3 ∷ 1 ∷ 0 ∷ []) $
    use3 𝓛 (later (‵ (hold_owns R z (woken 𝓛 R z t.deed x m.value)) ⊛ ‵ (flft κ₀ s))) (wakes 𝓛 R z t.deed x κ₀ s m.room_id m.value m.deed m.is_ticket asked.0) $ await ! tt $ split ! $ move ! (1 ∷ 2 ∷ []) $
    use2 𝓛 (later (‵ (flft κ q))) (apply∗ 𝓤 (A.lft κ₀ s) (H.⇛ (A.lft κ q))) $ await ! tt $ move ! (0 ∷ 2 ∷ []) $ join ! $ move ! (1 ∷ []) $
    let r : Hr.Denot = record { marker = record {}; room_id = z; value = woken 𝓛 R z t.deed x m.value } in let Told : Type 0 = z ≡ z in
    use0 𝓛 (‵ ((HoldData R).own_val (tt, tt) (token_val ∷ []))) (hold_made R 𝓛) $ fjoin ! $
    sets ! (agg ! (no_more !)) refl (tt, tt) $ sets ! (agg ! (and_then ! (get ! refl) (no_more !))) refl (tt, (tt, tt)) $
    use0 𝓛 (raw (fact 𝓤 Told)) (fact_i 𝓤 Told (emp 𝓤) refl) $ nothing ! $ nothing ! $ fjoin ! $ nothing ! $ fjoin ! $
    returns ! (look_at ! 0 refl) $ free_all ! refl $ keep ! (3 ∷ 0 ∷ 2 ∷ 1 ∷ []) $ by ! (leaves 𝓛 En hs c y token_val r (tt, (tt, tt)) (tt, (tt, tt))))))))
