-- The ticket comes out of the spare, to whoever has the hold.
use Rattle.atomic_table.proofs.Names.{◌≡◌, ℕ, List, [], ◌∷◌, ◌++◌, refl, sym, a_type, named, Val, vptr, inst_fn, SProp, emp, Fml, ftrue, fsep, flft, Lft, Share, ‵, raw, ◌⊛◌, later, ◌$◌, ◌∵◌, !, qed, by, move, keep, split, split3, join, fsplit, fsplit3, fjoin, fjoin3, fpack, use0, use1, use2, use3, await, rewrite, feq_i, of_opd, no_more, and_then, returns, enter, alloc_all, pass_all, free_all, look_at, get, sets, agg, tables, no, RattleType, owns, Valss, types_at, plain, Ptr, nothing, heard, param, layouts, Stays, stay_dropped, walk_of, Goes-dropped, fact, fact_i, of_list, mut_vals, mut_Tells}
use base.Share
use base.Fml.{feq}
use base.Fraction.{full_share}
use Rattle.atomic_table.proofs.Walks.{proved, leaves}
use Rattle.std.proofs.Common.{Option, None}
use Rattle.lock_place.specs.Held.{RoomId, age, hold_owns}
use Rattle.lock_place.specs.Spared.{ticket_owns, spare_owns}
use Rattle.lock_place.specs.contracts.room.Room as room
use Rattle.lock_place.specs.contracts.room.Hold as hold
use Rattle.lock_place.specs.contracts.spare.Spare as spare
use Rattle.lock_place.specs.contracts.spare.Ticket as ticket
use Rattle.atomic_table.proofs.Names.{stay_ref, Goes-ref, opens, closes}
use Rattle.lock_place.proofs.Fields.{token_val, pair_of, TicketData, ticket_made, hold_told}
use Rattle.lock_place.proofs.Spares.{reissues, known}
use Rattle.lock_place.specs.contracts.spare.Spare.reissue_in.{ended, clauses}
use Rattle.lock_place.specs.contracts.spare.Spare.reissue_in.Key.{name as #self}
use Rattle.lock_place.proofs.spare.Spare.reissue_in.Statement.{statement}
use Rattle.lock_place.proofs.spare.Spare.reissue_in.Code as code

pub reissue_in_spec : {M : Type 1} → statement M
reissue_in_spec 𝓤 𝓛 𝓜 𝓡 wired T L =
    let H = 𝓛.H in let A = 𝓛.A in let 𝓣 = tables 𝓤 H 𝓜 𝓡 𝓡.env in let R : RattleType = param 0 T in let En = ended T in let c = clauses T 𝓛 𝓜.mem 𝓡.returns in
    let inst = layouts (a_type ∷ []) (T, tt) in let fn = inst_fn inst code.function in let closed = code.unfolded 𝓤 H 𝓜 𝓡 wired (T, tt) in
    let Row : RattleType = room.the_row R in let Hr : RattleType = hold.the_row R in let Sp : RattleType = spare.the_row R in let Tk : RattleType = ticket.the_row in let u : Val = pair_of token_val token_val in
    let me = plain (λ _. Sp) in let own = plain (λ _. Hr) in let at = plain (λ _. Row) in let hs : Stays En.signature.params En.kept = (stay_ref (0 ∷ []) tt me, (stay_dropped own no, (stay_ref (0 ∷ []) tt at, tt))) in
    proved 𝓛 En hs c 𝓜 𝓡 (Goes-ref 𝓛 2 0 tt me, (Goes-dropped 𝓛 2 own no (λ κs x f. refl), (Goes-ref 𝓛 2 0 tt at, tt))) (#self inst) fn closed
    (λ κs. (mut_vals, ((λ _. token_val ∷ []), (mut_vals, tt)))) (λ κs. (mut_Tells (named 0) κs.0 Sp, ((λ x vs so. hold_told R vs so.0), (mut_Tells (named 0) κs.0 Row, tt)))) (λ κs qs bounds a gh are.
    let s : Sp.Denot = a.0.now in let sb : ℕ = a.0.ref_ptr.0 in let so : ℕ = a.0.ref_ptr.1 in let h : Hr.Denot = a.1.0 in let t : Row.Denot = a.1.1.0.now in let b : ℕ = a.1.1.0.ref_ptr.0 in let o : ℕ = a.1.1.0.ref_ptr.1 in let κ : Lft = κs.0 in let q : Share = qs.0 in
    let z : RoomId = t.room_id in let p : Ptr = t.at in let d : ℕ = s.deed in let v : T.Denot = h.value in
    let Asked : Type 0 = (h.room_id ≡ z) × (s.room_id ≡ z) × (Rattle.core.specs.Option.is_some s.value ≡ mathlib.Core.Bool.true) in
    let others : Fml = fsep (flft κs.1.0 qs.1.0) ftrue in
    let y : (walk_of 𝓛 En hs c).Ghost = ((κs, qs, bounds, a, (vptr sb so ∷ [], (token_val ∷ [], (vptr b o ∷ [], tt)))), gh) in let Post : Val → SProp 𝓤 = (walk_of 𝓛 En hs c).post y in
    qed 𝓛 (((‵ (flft κ q) ⊛ ‵ others) ⊛ ‵ (owns (types_at En.signature.params κs) a y.0.4)) ∷ raw (fact 𝓤 _) ∷ raw (fact 𝓤 Asked) ∷ []) ∵
    keep ! (2 ∷ 0 ∷ []) $ heard ! Asked (λ asked. let found = known s.value asked.2 in let x : T.Denot = found.0 in
    let s' : Sp.Denot = record { marker = s.marker; room_id = s.room_id; deed = d; value = None } in let r : Hr.Denot = record { marker = h.marker; room_id = z; value = v } in let k : Tk.Denot = record { marker = record {}; deed = d } in
    let Told : Type 0 = (t ≡ t) × (z ≡ h.room_id) × (v ≡ v) × (s.room_id ≡ s.room_id) × (d ≡ d) × (s'.value ≡ None) × (d ≡ d) in
    split ! $ split ! $ move ! (2 ∷ []) $ fsplit3 ! $ fsplit3 ! $ move ! (3 ∷ []) $ fsplit ! $ rewrite ! 1 (λ (i : RoomId). ‵ (hold_owns R i v)) asked.0 refl $
    move ! (5 ∷ []) $ fsplit ! $ fsplit3 ! $ keep ! (7 ∷ 8 ∷ 9 ∷ 1 ∷ 2 ∷ 4 ∷ 5 ∷ 10 ∷ []) $
    enter ! 𝓣.C 𝓣.Λ fn (vptr sb so ∷ token_val ∷ vptr b o ∷ []) Post $ alloc_all ! (λ l. pass_all ! refl ((tt, tt), ((tt, (tt, tt)), ((tt, tt), tt))) $
    move ! (2 ∷ []) $ use1 𝓛 (‵ (flft κ (Share.left q)) ⊛ ‵ (flft κ (Share.right q))) (𝓛.lfts.lft_split κ q) $ split ! $ move ! (2 ∷ 3 ∷ 0 ∷ []) $
    opens ! tt Sp sb so (λ ss. move ! (6 ∷ 7 ∷ 5 ∷ []) $ opens ! tt Row b o (λ ts.
    move ! (1 ∷ []) $ fsplit ! $ move ! (1 ∷ []) $ fsplit ! $ move ! (8 ∷ []) $ fsplit ! $ move ! (1 ∷ []) $
    rewrite ! 0 (λ (i : RoomId). ‵ (spare_owns R i d s.value)) asked.1 refl $ rewrite ! 0 (λ (w : Option T.Denot). ‵ (spare_owns R z d w)) found.1 refl $
    move ! (0 ∷ 14 ∷ 2 ∷ []) $
    use3 𝓛 (later (‵ (hold_owns R z v) ⊛ ‵ (ticket_owns d) ⊛ ‵ (flft (age z) full_share))) (reissues 𝓛 R z d x v) $ await ! tt $ split3 ! $
    move ! (2 ∷ 4 ∷ []) $ fjoin ! $ move ! (4 ∷ 0 ∷ []) $ fjoin ! $ move ! (4 ∷ 0 ∷ 5 ∷ 6 ∷ 7 ∷ []) $ closes ! tt Row t ts b o $
    nothing ! $ move ! (6 ∷ 0 ∷ []) $ fjoin ! $ move ! (6 ∷ 0 ∷ 7 ∷ 8 ∷ 9 ∷ []) $ closes ! tt Sp s' ss sb so $
    move ! (2 ∷ 5 ∷ []) $ use2 𝓛 (‵ (flft κ q)) (𝓛.lfts.lft_join κ q) $
    move ! (3 ∷ 4 ∷ []) $ feq_i ! (List Val) (vptr b o ∷ []) (vptr b o ∷ []) refl $ fjoin3 ! $ nothing ! $ move ! (1 ∷ 0 ∷ []) $ fjoin ! $ nothing ! $ fjoin ! $
    move ! (2 ∷ 3 ∷ []) $ feq_i ! (List Val) (vptr sb so ∷ []) (vptr sb so ∷ []) refl $ fjoin3 ! $ fjoin ! $
    move ! (1 ∷ 5 ∷ []) $ join ! $ move ! (3 ∷ []) $
    use0 𝓛 (‵ (TicketData.own_val (tt, tt) (token_val ∷ []))) (ticket_made 𝓛) $ fjoin ! $ move ! (4 ∷ 3 ∷ []) $ fjoin ! $
    nothing ! $ move ! (1 ∷ 2 ∷ 0 ∷ []) $ fjoin3 ! $ feq_i ! (List Val) (u ∷ []) (u ∷ []) refl $ fjoin ! $
    fpack ! (Valss (Hr ∷ Tk ∷ [])) (λ vss. fsep (feq (List Val) (u ∷ []) (mir.Val.vstruct (of_list (vss.0 ++ (vss.1.0 ++ []))) ∷ [])) (owns (Hr ∷ Tk ∷ []) (r, (k, tt)) vss)) (token_val ∷ [], (token_val ∷ [], tt)) $
    sets ! (of_opd ! (get ! refl)) refl (tt, (tt, tt)) $ sets ! (agg ! (no_more !)) refl (tt, tt) $ sets ! (agg ! (and_then ! (get ! refl) (no_more !))) refl (tt, (tt, tt)) $
    sets ! (agg ! (and_then ! (get ! refl) (and_then ! (get ! refl) (no_more !)))) refl (tt, ((tt, tt), ((tt, tt), tt))) $
    use0 𝓛 (raw (fact 𝓤 Told)) (fact_i 𝓤 Told (emp 𝓤) (refl, sym asked.0, refl, refl, refl, refl, refl)) $
    returns ! (look_at ! 0 refl) $ free_all ! refl $ keep ! (2 ∷ 3 ∷ 1 ∷ 0 ∷ []) $ by ! (leaves 𝓛 En hs c y u (r, k) (s', (tt, (t, tt))) (tt, (tt, (tt, tt)))))))))
