-- The memo goes out for the right to the writer lock's room.
use Rattle.atomic_table.proofs.Names.{◌≡◌, ℕ, List, [], ◌∷◌, refl, ◌∙◌, a_type, named, Val, vptr, inst_fn, SProp, emp, Lft, Fml, ftrue, fsep, flft, ‵, raw, ◌⊛◌, some, later, ◌$◌, ◌∵◌, !, qed, by, move, keep, drop, split, split3, join, fsplit, fsplit3, fjoin, fjoin3, pick, use0, use1, use3, await, rewrite, feq_i, no_more, and_then, returns, enter, alloc_all, pass_all, free_all, look_at, get, sets, agg, tables, yes, RattleType, owns, types_at, plain, block_ptr, nothing, heard, param, layouts, Stays, stay_dropped, stay_ref, walk_of, Goes-dropped, Goes-ref, fact, fact_i, RefOf, shr_vals, shr_Tells, mut_vals, mut_Tells, unhide, lent_out, hidden_shr, opens, closes, shr_bor-open, obor_close, tokens_halve}
use types.Kit.{fpick}
use base.Fml.{fhide, fex, fshr_bor}
use denote.Builtin.{unit}
use denote.Param.Laws.{param_laws}
use Rattle.atomic_table.proofs.Walks.{proved, leaves}
use Rattle.lock_place.specs.Held.{RoomId, age, hold_owns}
use Rattle.lock_place.specs.contracts.room.Room as room
use Rattle.lock_place.specs.contracts.room.Hold as hold
use Rattle.lock_place.proofs.Fields.{RoomData}
use Rattle.access_vault.specs.Kept.{VaultId, rights, views, memo_owns}
use Rattle.access_vault.proofs.Memos.{takes, nowhere}
use Rattle.access_vault.specs.contracts.vault.Vault as vault
use Rattle.access_vault.specs.contracts.memo.Memo as memos
use Rattle.access_vault.proofs.Fields.{token_val, VaultData, MemoData, memo_made}
use Rattle.access_vault.specs.contracts.vault.Vault.memo.{ended, clauses}
use Rattle.access_vault.specs.contracts.vault.Vault.memo.Key.{name as #self}
use Rattle.access_vault.proofs.vault.Vault.memo.Statement.{statement}
use Rattle.access_vault.proofs.vault.Vault.memo.Code as code

pub memo_spec : {M : Type 1} → statement M
memo_spec 𝓤 𝓛 𝓜 𝓡 wired T L =
    let H = 𝓛.H in let A = 𝓛.A in let 𝓣 = tables 𝓤 H 𝓜 𝓡 𝓡.env in let R : RattleType = param 0 T in let En = ended T in let c = clauses T 𝓛 𝓜.mem 𝓡.returns in
    let inst = layouts (a_type ∷ []) (T, tt) in let fn = inst_fn inst code.function in let closed = code.unfolded 𝓤 H 𝓜 𝓡 wired (T, tt) in
    let Vt : RattleType = vault.the_row R in let Hr : RattleType = hold.the_row unit in let Rm : RattleType = room.the_row unit in let Mr : RattleType = memos.the_row R in
    let self = RefOf (0 ∷ []) tt (plain (λ _. Vt)) (λ _. tt) in let it = plain (λ _. Hr) in let at = RefOf (2 ∷ []) tt (plain (λ _. Rm)) (λ _. tt) in
    let hs : Stays En.signature.params En.kept = (stay_dropped self yes, (stay_ref (1 ∷ []) tt it, (stay_dropped at yes, tt))) in
    proved 𝓛 En hs c 𝓜 𝓡 (Goes-dropped 𝓛 4 self yes (λ κs x f. refl), (Goes-ref 𝓛 4 1 tt it, (Goes-dropped 𝓛 4 at yes (λ κs x f. refl), tt))) (#self inst) fn closed
    (λ κs. (shr_vals, (mut_vals, (shr_vals, tt)))) (λ κs. (shr_Tells (named 0) κs.0 Vt, (mut_Tells (named 1) κs.1.0 Hr, (shr_Tells (named 2) κs.1.1.0 Rm, tt)))) (λ κs qs bounds a gh are.
    let t : Vt.Denot = a.0.now in let b : ℕ = a.0.ref_ptr.0 in let o : ℕ = a.0.ref_ptr.1 in let h : Hr.Denot = a.1.0.now in let b' : ℕ = a.1.0.ref_ptr.0 in let o' : ℕ = a.1.0.ref_ptr.1 in
    let m : Rm.Denot = a.1.1.0.now in let mb : ℕ = a.1.1.0.ref_ptr.0 in let mo : ℕ = a.1.1.0.ref_ptr.1 in let z : VaultId = t.vault_id in let ρ : RoomId = m.room_id in let κ : Lft = κs.0 in let κ' : Lft = κs.1.1.0 in
    let Asked : Type 0 = (ρ ≡ z.turn) × (h.room_id ≡ ρ) in let others : Fml = fsep (flft κs.1.1.1.0 qs.1.1.1.0) ftrue in
    let y : (walk_of 𝓛 En hs c).Ghost = ((κs, qs, bounds, a, (vptr b o ∷ [], (vptr b' o' ∷ [], (vptr mb mo ∷ [], tt)))), gh) in let Post : Val → SProp 𝓤 = (walk_of 𝓛 En hs c).post y in
    qed 𝓛 (((‵ (flft κ qs.0) ⊛ ‵ (flft κs.1.0 qs.1.0) ⊛ ‵ (flft κ' qs.1.1.0) ⊛ ‵ others) ⊛ ‵ (owns (types_at En.signature.params κs) a y.0.4)) ∷ raw (fact 𝓤 _) ∷ raw (fact 𝓤 Asked) ∷ []) ∵
    keep ! (2 ∷ 0 ∷ []) $ heard ! Asked (λ asked. split ! $ split3 ! $ move ! (2 ∷ []) $ split ! $ move ! (4 ∷ []) $ fsplit3 ! $
    -- ref, mut, ref, κ2, others, κ0, κ1
    fsplit ! $ move ! (2 ∷ []) $ fsplit3 ! $ move ! (5 ∷ []) $ fsplit ! $ fsplit ! $ keep ! (7 ∷ 1 ∷ 4 ∷ 5 ∷ 11 ∷ 8 ∷ 10 ∷ 9 ∷ []) $
    -- vault, room, obs, bor, κ1, κ2, κ0, others
    enter ! 𝓣.C 𝓣.Λ fn (vptr b o ∷ vptr b' o' ∷ vptr mb mo ∷ []) Post $ alloc_all ! (λ l. pass_all ! refl ((tt, tt), ((tt, tt), ((tt, tt), tt))) $
    use1 𝓛 (‵ (hidden_shr (VaultData R) κ (t.at, tt) b o) ⊛ ‵ (fhide (vault.the_lent R t (block_ptr b o) κ))) (lent_out 𝓛 (vault.struct R) (vault.the_codes T.Denot R.coded) (vault.the_heap R) (vault.the_lent R) κ t b o) $
    split ! $ drop ! $ unhide ! $ fsplit ! $ drop ! $ fpick ! (λ x. fsplit3 ! $ drop ! $ drop ! $ move ! (1 ∷ []) $
    use1 𝓛 (‵ (hidden_shr (RoomData unit) κ' (m.at, tt) mb mo) ⊛ ‵ (fhide (room.the_lent unit m (block_ptr mb mo) κ'))) (lent_out 𝓛 (room.struct unit) (room.the_codes unit.Denot unit.coded) (room.the_heap unit) (room.the_lent unit) κ' m mb mo) $
    split ! $ drop ! $ unhide ! $ fsplit ! $ move ! (1 ∷ []) $ drop ! $ rewrite ! 0 (λ (i : RoomId). ‵ (fshr_bor κ' (λ q. flft (age i) q))) asked.0 refl $ move ! (0 ∷ 5 ∷ []) $
    shr_bor-open ! tt (tokens_halve 𝓛 (age z.turn)) (λ q.
    -- open, token, m, obs, bor, κ1, κ0, others
    move ! (3 ∷ 4 ∷ 5 ∷ []) $ opens ! tt Hr b' o' (λ us. move ! (1 ∷ []) $ fsplit ! $ move ! (1 ∷ []) $ rewrite ! 0 (λ (i : RoomId). ‵ (hold_owns unit i h.value)) (asked.1 ∙ asked.0) refl $
    -- hold, data, cell, obor, obs, auth, open, token, m, κ0, others
    move ! (8 ∷ 0 ∷ 7 ∷ []) $
    use3 𝓛 (later (‵ (fex T.Denot (memo_owns R z)) ⊛ ‵ (flft (age z.turn) q))) (takes 𝓛 R (param_laws 0 T L).shr_laws z.room views rights z.table z.desk z.memo z.turn x.1.1 q h.value) $ await ! tt $ split ! $ fpick ! (λ w.
    -- memo, token, data, cell, obor, obs, auth, open, κ0, others
    move ! (7 ∷ 1 ∷ []) $ obor_close ! tt $ drop ! $
    use0 𝓛 (later (some (λ (i : RoomId). ‵ (hold_owns unit i tt)))) (nowhere 𝓛) $ await ! tt $ pick ! (λ i. let h' : Hr.Denot = record { marker = h.marker; room_id = i; value = tt } in
    -- blank, κ2, memo, data, cell, obor, obs, auth, κ0, others
    move ! (3 ∷ 0 ∷ []) $ fjoin ! $ move ! (3 ∷ 0 ∷ 4 ∷ 5 ∷ 6 ∷ []) $ closes ! tt Hr h' us b' o' $ feq_i ! (List Val) (vptr b' o' ∷ []) (vptr b' o' ∷ []) refl $ fjoin3 ! $
    -- the hold, κ1, κ2, memo, κ0, others
    nothing ! $ nothing ! $ fjoin ! $ move ! (1 ∷ 0 ∷ []) $ fjoin ! $ nothing ! $ fjoin ! $ move ! (2 ∷ 5 ∷ []) $ join ! $ move ! (2 ∷ 0 ∷ []) $ join ! $ move ! (3 ∷ 0 ∷ []) $ join ! $
    -- tokens, owned, memo
    let r : Mr.Denot = record { marker = record {}; vault_id = z; value = w } in let Told : Type 0 = z ≡ z in
    move ! (2 ∷ []) $ use0 𝓛 (‵ ((MemoData R).own_val (tt, tt) (token_val ∷ []))) (memo_made R 𝓛) $ fjoin ! $
    sets ! (agg ! (no_more !)) refl (tt, tt) $ sets ! (agg ! (and_then ! (get ! refl) (no_more !))) refl (tt, (tt, tt)) $
    use0 𝓛 (raw (fact 𝓤 Told)) (fact_i 𝓤 Told (emp 𝓤) refl) $
    returns ! (look_at ! 0 refl) $ free_all ! refl $ keep ! (2 ∷ 3 ∷ 1 ∷ 0 ∷ []) $ by ! (leaves 𝓛 En hs c y token_val r (tt, (h', (tt, tt))) (tt, (tt, (tt, tt))))))))))))
