-- The right goes back to the vault, and the seat comes out of pledge.
use Rattle.atomic_table.proofs.Names.{◌≡◌, ℕ, List, [], ◌∷◌, ◌++◌, refl, a_type, named, Val, vunit, vptr, inst_fn, SProp, emp, apply∗, wand, Lft, Share, Fml, ftrue, fsep, flft, ‵, raw, ◌⊛◌, some, later, ◌$◌, ◌∵◌, !, qed, by, move, keep, drop, split, split3, join, fsplit, fsplit3, fjoin, fjoin3, pick, use0, use1, use2, use3, await, rewrite, feq_i, unit_lit, of_opd, returns, enter, alloc_all, pass_all, free_all, look_at, sets, tables, yes, no, RattleType, owns, types_at, plain, block_ptr, nothing, heard, param, layouts, Stays, stay_dropped, stay_ref, walk_of, Goes-dropped, Goes-ref, fact, fact_i, RefOf, shr_vals, shr_Tells, mut_vals, mut_Tells, unhide, lent_out, hidden_shr, opens, closes}
use types.Kit.{fpick}
use base.Fml.{fhide}
use Rattle.atomic_table.proofs.Walks.{proved, leaves}
use Rattle.atomic_table.specs.contracts.badge.Badge as badge
use Rattle.words_access.specs.contracts.view.View as view
use Rattle.access_vault.specs.Kept.{VaultId, rights, views, grip_owns, memo_owns}
use contract.BorrowLft.{◌⊑◌, meet_⊑_left}
use types.Frac.{lent_meet}
use base.Fml.{Incl-refl}
use Rattle.lock_place.specs.Held.{age}
use Rattle.access_vault.specs.Rounds.{seen_owns}
use Rattle.access_vault.proofs.Rounds.{begins}
use Rattle.access_vault.specs.Vault.{seat, memo}
use Rattle.access_vault.proofs.Lending.{writes_no_more}
use denote.Param.Laws.{param_laws}
use Rattle.access_vault.specs.contracts.vault.Vault as vault
use Rattle.access_vault.specs.contracts.vault.Grip as grip
use Rattle.access_vault.specs.contracts.memo.Memo as memos
use Rattle.access_vault.proofs.Fields.{token_val, grip_told, VaultData}
use Rattle.access_vault.specs.contracts.vault.Grip.give_back.{ended, clauses}
use Rattle.access_vault.specs.contracts.vault.Grip.give_back.Key.{name as #self}
use Rattle.access_vault.proofs.vault.Grip.give_back.Statement.{statement}
use Rattle.access_vault.proofs.vault.Grip.give_back.Code as code

pub give_back_spec : {M : Type 1} → statement M
give_back_spec 𝓤 𝓛 𝓜 𝓡 wired T L =
    let H = 𝓛.H in let A = 𝓛.A in let 𝓣 = tables 𝓤 H 𝓜 𝓡 𝓡.env in let R : RattleType = param 0 T in let En = ended T in let c = clauses T 𝓛 𝓜.mem 𝓡.returns in
    let inst = layouts (a_type ∷ []) (T, tt) in let fn = inst_fn inst code.function in let closed = code.unfolded 𝓤 H 𝓜 𝓡 wired (T, tt) in
    let Gl : RattleType = grip.the_row R in let Vt : RattleType = vault.the_row R in let Br : RattleType = badge.the_row view.the_row in let Mr : RattleType = memos.the_row R in
    let me = plain (λ _. Gl) in let at = RefOf (0 ∷ []) tt (plain (λ _. Vt)) (λ _. tt) in let it = plain (λ _. Br) in let own = plain (λ _. Mr) in let hs : Stays En.signature.params En.kept = (stay_dropped me no, (stay_dropped at yes, (stay_ref (1 ∷ []) tt it, (stay_ref (2 ∷ []) tt own, tt)))) in
    proved 𝓛 En hs c 𝓜 𝓡 (Goes-dropped 𝓛 4 me no (λ κs x f. refl), (Goes-dropped 𝓛 4 at yes (λ κs x f. refl), (Goes-ref 𝓛 4 1 tt it, (Goes-ref 𝓛 4 2 tt own, tt)))) (#self inst) fn closed
    (λ κs. ((λ _. token_val ∷ []), (shr_vals, (mut_vals, (mut_vals, tt))))) (λ κs. ((λ x vs so. grip_told R vs so.0), (shr_Tells (named 0) κs.0 Vt, (mut_Tells (named 1) κs.1.0 Br, (mut_Tells (named 2) κs.1.1.0 Mr, tt))))) (λ κs qs bounds a gh are.
    let g : Gl.Denot = a.0 in let t : Vt.Denot = a.1.0.now in let b : ℕ = a.1.0.ref_ptr.0 in let o : ℕ = a.1.0.ref_ptr.1 in let d : Br.Denot = a.1.1.0.now in let b' : ℕ = a.1.1.0.ref_ptr.0 in let o' : ℕ = a.1.1.0.ref_ptr.1 in let own_memo : Mr.Denot = a.1.1.1.0.now in let mb : ℕ = a.1.1.1.0.ref_ptr.0 in let mo : ℕ = a.1.1.1.0.ref_ptr.1 in
    let z : VaultId = t.vault_id in let Asked : Type 0 = (g.vault_id ≡ z) × (d.views ≡ []) × (own_memo.vault_id ≡ z) in let others : Fml = fsep (flft κs.1.1.1.0 qs.1.1.1.0) ftrue in
    let y : (walk_of 𝓛 En hs c).Ghost = ((κs, qs, bounds, a, (token_val ∷ [], (vptr b o ∷ [], (vptr b' o' ∷ [], (vptr mb mo ∷ [], tt))))), gh) in let Post : Val → SProp 𝓤 = (walk_of 𝓛 En hs c).post y in
    let d' : Br.Denot = record { marker = d.marker; table_id = z.table; id = g.id; views = g.view ∷ [] } in let Told : Type 0 = (z.table ≡ z.table) × (g.id ≡ g.id) × (d'.views ≡ d'.views) in let κ : Lft = κs.0 in let q : Share = qs.0 in let α : Lft = age z.room in let τ : Lft = κs.1.1.1.0 in let w' : T.Denot = g.value in
    let m' : Mr.Denot = record { marker = own_memo.marker; vault_id = z; value = w' } in let Known : Type 0 = (z ≡ z) × (w' ≡ w') in
    qed 𝓛 (((‵ (flft κs.0 qs.0) ⊛ ‵ (flft κs.1.0 qs.1.0) ⊛ ‵ (flft κs.1.1.0 qs.1.1.0) ⊛ ‵ others) ⊛ ‵ (owns (types_at En.signature.params κs) a y.0.4)) ∷ raw (fact 𝓤 (τ ⊑ T.lives)) ∷ raw (fact 𝓤 Asked) ∷ []) ∵
    keep ! (1 ∷ 2 ∷ 0 ∷ []) $ heard ! (τ ⊑ T.lives) (λ le. heard ! Asked (λ asked. split ! $ split3 ! $ move ! (2 ∷ []) $ split ! $ move ! (4 ∷ []) $ fsplit3 ! $ fsplit ! $ move ! (2 ∷ []) $ fsplit ! $ move ! (4 ∷ []) $ fsplit ! $ fsplit3 ! $ move ! (3 ∷ []) $ fsplit ! $ fsplit3 ! $
    keep ! (5 ∷ 6 ∷ 8 ∷ 10 ∷ 13 ∷ 14 ∷ 12 ∷ 1 ∷ 2 ∷ 11 ∷ []) $
    -- obs, bor, vault, heap, κ0, κ1, others, the memo's obs, bor, κ2
    enter ! 𝓣.C 𝓣.Λ fn (token_val ∷ vptr b o ∷ vptr b' o' ∷ vptr mb mo ∷ []) Post $ alloc_all ! (λ l. pass_all ! refl ((tt, (tt, tt)), ((tt, tt), ((tt, tt), ((tt, tt), tt)))) $
    move ! (2 ∷ []) $
    use1 𝓛 (‵ (hidden_shr (VaultData R) κ (t.at, tt) b o) ⊛ ‵ (fhide (vault.the_lent R t (block_ptr b o) κ))) (lent_out 𝓛 (vault.struct R) (vault.the_codes T.Denot R.coded) (vault.the_heap R) (vault.the_lent R) κ t b o) $
    split ! $ drop ! $ unhide ! $ fsplit ! $ fsplit ! $ move ! (1 ∷ []) $ drop ! $ move ! (0 ∷ 5 ∷ []) $
    -- the age lasts, κ0, live, obs, bor, heap, κ1, others
    use2 𝓛 (later (some (λ (r : Share). ‵ (flft (α ++ κ) r) ⊛ raw (wand 𝓤 (A.lft (α ++ κ) r) (H.⇛ (A.lft κ q)))))) (lent_meet 𝓛 κ α κ q (Incl-refl κ)) $ await ! tt $ pick ! (λ w. split ! $
    move ! (5 ∷ []) $ rewrite ! 0 (λ (i : VaultId). ‵ (grip_owns R i g.id g.view w')) asked.0 refl $ fpick ! (λ j. fsplit ! $ move ! (8 ∷ []) $ fsplit ! $ move ! (3 ∷ 4 ∷ 0 ∷ []) $
    -- hold, token of both, τ, nothing, account, back, live, obs, bor, κ1
    use3 𝓛 (later (‵ (seen_owns R z.room w') ⊛ ‵ (flft (α ++ κ) w) ⊛ ‵ (flft τ qs.1.1.1.0))) (begins 𝓛 R z.room w' R.lives ((param_laws 0 T L).shares 𝓛) (α ++ κ) w τ qs.1.1.1.0 (meet_⊑_left α κ) le) $ await ! tt $ split3 ! $
    move ! (1 ∷ 5 ∷ []) $ use2 𝓛 (later (‵ (flft κ q))) (apply∗ 𝓤 (A.lft (α ++ κ) w) (H.⇛ (A.lft κ q))) $ await ! tt $ move ! (2 ∷ 3 ∷ []) $ fjoin ! $
    -- others, κ0, seen, account, live, obs, bor, κ1
    move ! (2 ∷ []) $ fsplit ! $ move ! (1 ∷ []) $ fpick ! (λ r. fsplit3 ! $ move ! (2 ∷ 3 ∷ []) $ fjoin ! $ move ! (2 ∷ 0 ∷ []) $ fjoin ! $ move ! (1 ∷ 0 ∷ []) $ fjoin ! $
    -- stock, others, κ0, account, live, obs, bor, κ1, the memo's
    move ! (8 ∷ 9 ∷ 10 ∷ []) $ opens ! tt Mr mb mo (λ ms. move ! (1 ∷ []) $ fsplit ! $ move ! (1 ∷ []) $ rewrite ! 0 (λ (i : VaultId). ‵ (memo_owns R i own_memo.value)) asked.2 refl $ fsplit ! $
    -- memo, the turn's borrow, the memo's data, cell, obor, obs, auth, stock, others, κ0, account, live, obs, bor, κ1
    move ! (7 ∷ 0 ∷ []) $ join ! $ move ! (9 ∷ 0 ∷ []) $ join ! $ move ! (9 ∷ []) $ fpick ! (λ x. fsplit3 ! $ drop ! $ drop ! $
    use2 𝓛 (later (‵ (seat views.code rights z.table g.id g.view) ⊛ ‵ (memo R z.memo w'))) (writes_no_more 𝓛 R (param_laws 0 T L).shr_laws z.room views rights z.table z.desk z.memo z.turn x.1.1 g.id g.view r own_memo.value w' j) $ await ! tt $ split ! $
    -- seat, memo, the turn's borrow, the memo's data, cell, obor, obs, auth, others, κ0, obs, bor, κ1
    move ! (1 ∷ 2 ∷ []) $ fjoin ! $ move ! (2 ∷ 0 ∷ []) $ fjoin ! $ move ! (2 ∷ 0 ∷ 3 ∷ 4 ∷ 5 ∷ []) $ closes ! tt Mr m' ms mb mo $ feq_i ! (List Val) (vptr mb mo ∷ []) (vptr mb mo ∷ []) refl $ fjoin3 ! $
    -- the memo, κ2, seat, others, κ0, obs, bor, κ1
    move ! (5 ∷ 6 ∷ 7 ∷ []) $ opens ! tt Br b' o' (λ ts. move ! (1 ∷ []) $ fsplit ! $ move ! (0 ∷ 8 ∷ 2 ∷ 3 ∷ 4 ∷ 5 ∷ []) $ fjoin ! $ move ! (1 ∷ 0 ∷ []) $
    closes ! tt Br d' ts b' o' $ feq_i ! (List Val) (vptr b' o' ∷ []) (vptr b' o' ∷ []) refl $ fjoin3 ! $
    -- the badge, κ1, heap, the memo, κ2, others, κ0
    move ! (3 ∷ []) $ nothing ! $ move ! (1 ∷ 0 ∷ []) $ fjoin ! $ move ! (1 ∷ 0 ∷ []) $ fjoin ! $ nothing ! $ fjoin ! $ nothing ! $ fjoin ! $
    move ! (3 ∷ 4 ∷ []) $ join ! $ move ! (2 ∷ 0 ∷ []) $ join ! $ move ! (3 ∷ 0 ∷ []) $ join ! $
    sets ! (of_opd ! (unit_lit !)) refl (tt, tt) $ use0 𝓛 (raw (fact 𝓤 Known)) (fact_i 𝓤 Known (emp 𝓤) (refl, refl)) $ use0 𝓛 (raw (fact 𝓤 Told)) (fact_i 𝓤 Told (emp 𝓤) (refl, refl, refl)) $ join ! $ feq_i ! (List Val) (vunit ∷ []) (vunit ∷ []) refl $
    returns ! (look_at ! 0 refl) $ free_all ! refl $ keep ! (2 ∷ 3 ∷ 0 ∷ 1 ∷ []) $ by ! (leaves 𝓛 En hs c y vunit tt (tt, (tt, (d', (m', tt)))) (tt, (tt, (tt, (tt, tt)))))))))))))))
