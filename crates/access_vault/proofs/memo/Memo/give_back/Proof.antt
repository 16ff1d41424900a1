-- The memo goes back, and the right to the writer lock's room comes out.
use Rattle.atomic_table.proofs.Names.{◌≡◌, ℕ, List, [], ◌∷◌, refl, sym, a_type, named, Val, vunit, vptr, inst_fn, SProp, emp, Lft, Fml, ftrue, fsep, flft, ‵, raw, ◌⊛◌, later, ◌$◌, ◌∵◌, !, qed, by, move, keep, drop, split, split3, join, fsplit, fsplit3, fjoin, fjoin3, use0, use1, use3, await, rewrite, feq_i, unit_lit, of_opd, returns, enter, alloc_all, pass_all, free_all, look_at, sets, tables, yes, no, RattleType, owns, types_at, plain, block_ptr, nothing, heard, param, layouts, Stays, stay_dropped, stay_ref, walk_of, Goes-dropped, Goes-ref, fact, fact_i, RefOf, shr_vals, shr_Tells, mut_vals, mut_Tells, unhide, lent_out, hidden_shr, opens, closes, shr_bor-open, obor_close, tokens_halve}
use types.Kit.{fpick}
use base.Fml.{fhide, fex, fshr_bor}
use denote.Builtin.{unit}
use denote.Param.Laws.{param_laws}
use Rattle.atomic_table.proofs.Walks.{proved, leaves}
use Rattle.lock_place.specs.Held.{RoomId, age, hold_owns}
use Rattle.lock_place.specs.contracts.room.Room as room
use Rattle.lock_place.specs.contracts.room.Hold as hold
use Rattle.lock_place.proofs.Fields.{RoomData}
use Rattle.access_vault.specs.Kept.{VaultId, rights, views, memo_owns}
use Rattle.access_vault.proofs.Memos.{gives}
use Rattle.access_vault.specs.contracts.vault.Vault as vault
use Rattle.access_vault.specs.contracts.memo.Memo as memos
use Rattle.access_vault.proofs.Fields.{token_val, VaultData, memo_told}
use Rattle.access_vault.specs.contracts.memo.Memo.give_back.{ended, clauses}
use Rattle.access_vault.specs.contracts.memo.Memo.give_back.Key.{name as #self}
use Rattle.access_vault.proofs.memo.Memo.give_back.Statement.{statement}
use Rattle.access_vault.proofs.memo.Memo.give_back.Code as code

pub give_back_spec : {M : Type 1} → statement M
give_back_spec 𝓤 𝓛 𝓜 𝓡 wired T L =
    let H = 𝓛.H in let A = 𝓛.A in let 𝓣 = tables 𝓤 H 𝓜 𝓡 𝓡.env in let R : RattleType = param 0 T in let En = ended T in let c = clauses T 𝓛 𝓜.mem 𝓡.returns in
    let inst = layouts (a_type ∷ []) (T, tt) in let fn = inst_fn inst code.function in let closed = code.unfolded 𝓤 H 𝓜 𝓡 wired (T, tt) in
    let Vt : RattleType = vault.the_row R in let Hr : RattleType = hold.the_row unit in let Rm : RattleType = room.the_row unit in let Mr : RattleType = memos.the_row R in
    let me = plain (λ _. Mr) in let self = RefOf (0 ∷ []) tt (plain (λ _. Vt)) (λ _. tt) in let it = plain (λ _. Hr) in let at = RefOf (2 ∷ []) tt (plain (λ _. Rm)) (λ _. tt) in
    let hs : Stays En.signature.params En.kept = (stay_dropped me no, (stay_dropped self yes, (stay_ref (1 ∷ []) tt it, (stay_dropped at yes, tt)))) in
    proved 𝓛 En hs c 𝓜 𝓡 (Goes-dropped 𝓛 4 me no (λ κs x f. refl), (Goes-dropped 𝓛 4 self yes (λ κs x f. refl), (Goes-ref 𝓛 4 1 tt it, (Goes-dropped 𝓛 4 at yes (λ κs x f. refl), tt)))) (#self inst) fn closed
    (λ κs. ((λ _. token_val ∷ []), (shr_vals, (mut_vals, (shr_vals, tt))))) (λ κs. ((λ x vs so. memo_told R vs so.0), (shr_Tells (named 0) κs.0 Vt, (mut_Tells (named 1) κs.1.0 Hr, (shr_Tells (named 2) κs.1.1.0 Rm, tt))))) (λ κs qs bounds a gh are.
    let g : Mr.Denot = a.0 in let t : Vt.Denot = a.1.0.now in let b : ℕ = a.1.0.ref_ptr.0 in let o : ℕ = a.1.0.ref_ptr.1 in let h : Hr.Denot = a.1.1.0.now in let b' : ℕ = a.1.1.0.ref_ptr.0 in let o' : ℕ = a.1.1.0.ref_ptr.1 in
    let m : Rm.Denot = a.1.1.1.0.now in let mb : ℕ = a.1.1.1.0.ref_ptr.0 in let mo : ℕ = a.1.1.1.0.ref_ptr.1 in let z : VaultId = t.vault_id in let ρ : RoomId = m.room_id in let κ : Lft = κs.0 in let κ' : Lft = κs.1.1.0 in
    let Asked : Type 0 = (g.vault_id ≡ z) × (ρ ≡ z.turn) in let others : Fml = fsep (flft κs.1.1.1.0 qs.1.1.1.0) ftrue in
    let y : (walk_of 𝓛 En hs c).Ghost = ((κs, qs, bounds, a, (token_val ∷ [], (vptr b o ∷ [], (vptr b' o' ∷ [], (vptr mb mo ∷ [], tt))))), gh) in let Post : Val → SProp 𝓤 = (walk_of 𝓛 En hs c).post y in
    qed 𝓛 (((‵ (flft κ qs.0) ⊛ ‵ (flft κs.1.0 qs.1.0) ⊛ ‵ (flft κ' qs.1.1.0) ⊛ ‵ others) ⊛ ‵ (owns (types_at En.signature.params κs) a y.0.4)) ∷ raw (fact 𝓤 _) ∷ raw (fact 𝓤 Asked) ∷ []) ∵
    keep ! (2 ∷ 0 ∷ []) $ heard ! Asked (λ asked. split ! $ split3 ! $ move ! (2 ∷ []) $ split ! $ move ! (4 ∷ []) $ fsplit3 ! $
    -- memo, ref, the rest, κ2, others, κ0, κ1
    fsplit ! $ move ! (2 ∷ []) $ fsplit ! $ move ! (4 ∷ []) $ fsplit ! $ fsplit3 ! $ move ! (3 ∷ []) $ fsplit ! $ fsplit ! $ keep ! (7 ∷ 1 ∷ 4 ∷ 5 ∷ 13 ∷ 10 ∷ 12 ∷ 11 ∷ 9 ∷ []) $
    -- vault, room, obs, bor, κ1, κ2, κ0, others, memo
    enter ! 𝓣.C 𝓣.Λ fn (token_val ∷ vptr b o ∷ vptr b' o' ∷ vptr mb mo ∷ []) Post $ alloc_all ! (λ l. pass_all ! refl ((tt, (tt, tt)), ((tt, tt), ((tt, tt), ((tt, tt), tt)))) $
    use1 𝓛 (‵ (hidden_shr (VaultData R) κ (t.at, tt) b o) ⊛ ‵ (fhide (vault.the_lent R t (block_ptr b o) κ))) (lent_out 𝓛 (vault.struct R) (vault.the_codes T.Denot R.coded) (vault.the_heap R) (vault.the_lent R) κ t b o) $
    split ! $ drop ! $ unhide ! $ fsplit ! $ drop ! $ fpick ! (λ x. fsplit3 ! $ drop ! $ drop ! $ move ! (1 ∷ []) $
    use1 𝓛 (‵ (hidden_shr (RoomData unit) κ' (m.at, tt) mb mo) ⊛ ‵ (fhide (room.the_lent unit m (block_ptr mb mo) κ'))) (lent_out 𝓛 (room.struct unit) (room.the_codes unit.Denot unit.coded) (room.the_heap unit) (room.the_lent unit) κ' m mb mo) $
    split ! $ drop ! $ unhide ! $ fsplit ! $ move ! (1 ∷ []) $ drop ! $ rewrite ! 0 (λ (i : RoomId). ‵ (fshr_bor κ' (λ q. flft (age i) q))) asked.1 refl $ move ! (0 ∷ 5 ∷ []) $
    shr_bor-open ! tt (tokens_halve 𝓛 (age z.turn)) (λ q.
    -- open, token, m, obs, bor, κ1, κ0, others, memo
    move ! (8 ∷ []) $ rewrite ! 0 (λ (i : VaultId). ‵ (memo_owns R i g.value)) asked.0 refl $ move ! (3 ∷ 0 ∷ 2 ∷ []) $
    use3 𝓛 (later (‵ (fex unit.Denot (hold_owns unit z.turn)) ⊛ ‵ (flft (age z.turn) q))) (gives 𝓛 R (param_laws 0 T L).shr_laws z.room views rights z.table z.desk z.memo z.turn x.1.1 q g.value) $ await ! tt $ split ! $ fpick ! (λ w.
    -- hold, token, open, obs, bor, κ1, κ0, others
    move ! (2 ∷ 1 ∷ []) $ obor_close ! tt $ drop ! $ let h' : Hr.Denot = record { marker = h.marker; room_id = z.turn; value = w } in
    -- κ2, hold, obs, bor, κ1, κ0, others
    move ! (2 ∷ 3 ∷ 4 ∷ []) $ opens ! tt Hr b' o' (λ us. move ! (1 ∷ []) $ fsplit ! $ move ! (0 ∷ 7 ∷ 2 ∷ 3 ∷ 4 ∷ 5 ∷ []) $ fjoin ! $ move ! (1 ∷ 0 ∷ []) $
    closes ! tt Hr h' us b' o' $ feq_i ! (List Val) (vptr b' o' ∷ []) (vptr b' o' ∷ []) refl $ fjoin3 ! $
    -- the hold, κ1, what it had, κ2, κ0, others
    nothing ! $ nothing ! $ fjoin ! $ move ! (1 ∷ 0 ∷ []) $ fjoin ! $ nothing ! $ fjoin ! $ nothing ! $ fjoin ! $ move ! (3 ∷ 5 ∷ []) $ join ! $ move ! (2 ∷ 0 ∷ []) $ join ! $ move ! (3 ∷ 0 ∷ []) $ join ! $
    -- tokens, owned
    let Told : Type 0 = z.turn ≡ ρ in sets ! (of_opd ! (unit_lit !)) refl (tt, tt) $ use0 𝓛 (raw (fact 𝓤 Told)) (fact_i 𝓤 Told (emp 𝓤) (sym asked.1)) $ feq_i ! (List Val) (vunit ∷ []) (vunit ∷ []) refl $
    returns ! (look_at ! 0 refl) $ free_all ! refl $ keep ! (2 ∷ 3 ∷ 0 ∷ 1 ∷ []) $ by ! (leaves 𝓛 En hs c y vunit tt (tt, (tt, (h', (tt, tt)))) (tt, (tt, (tt, (tt, tt))))))))))))
