-- Both pledges are of one round, and a round has one value.
use Rattle.atomic_table.proofs.Names.{◌≡◌, ℕ, List, [], ◌∷◌, refl, sym, ap, a_type, named, Val, vunit, vptr, inst_fn, SProp, emp, Lft, Share, Fml, ftrue, fsep, flft, ‵, raw, ◌⊛◌, given, later, ◌$◌, ◌∵◌, !, qed, by, move, keep, drop, split, split3, join, fsplit, fsplit3, fjoin, fjoin3, learn, use0, use1, use3, await, rewrite, feq_i, unit_lit, of_opd, returns, enter, alloc_all, pass_all, free_all, look_at, sets, tables, yes, RattleType, owns, types_at, plain, block_ptr, nothing, heard, param, layouts, Stays, stay_dropped, stay_ref, walk_of, Goes-dropped, Goes-ref, fact, fact_i, RefOf, shr_vals, shr_Tells, mut_vals, mut_Tells, unhide, lent_out, hidden_shr, opens, closes}
use types.Kit.{fpick, fpack}
use base.Fml.{fhide}
use denote.Param.Laws.{param_laws}
use Rattle.atomic_table.proofs.Walks.{proved, leaves}
use Rattle.words_access.specs.declared.view.View.{View}
use Rattle.access_vault.specs.Vault.{Round, Cell, round_of, reading, pledge}
use Rattle.access_vault.specs.Kept.{VaultId, rights, views, glance_with, glance_owns}
use Rattle.access_vault.proofs.Lending.{alike_now}
use Rattle.access_vault.specs.contracts.vault.Vault as vault
use Rattle.access_vault.specs.contracts.vault.Glance as glance
use Rattle.access_vault.proofs.Fields.{VaultData}
use Rattle.access_vault.specs.contracts.vault.Glance.agrees.{ended, clauses}
use Rattle.access_vault.specs.contracts.vault.Glance.agrees.Key.{name as #self}
use Rattle.access_vault.proofs.vault.Glance.agrees.Statement.{statement}
use Rattle.access_vault.proofs.vault.Glance.agrees.Code as code

pub agrees_spec : {M : Type 1} → statement M
agrees_spec 𝓤 𝓛 𝓜 𝓡 wired T L =
    let H = 𝓛.H in let A = 𝓛.A in let 𝓣 = tables 𝓤 H 𝓜 𝓡 𝓡.env in let R : RattleType = param 0 T in let En = ended T in let c = clauses T 𝓛 𝓜.mem 𝓡.returns in
    let inst = layouts (a_type ∷ []) (T, tt) in let fn = inst_fn inst code.function in let closed = code.unfolded 𝓤 H 𝓜 𝓡 wired (T, tt) in
    let Gl : RattleType = glance.the_row R in let Vt : RattleType = vault.the_row R in let it = plain (λ _. Gl) in let at = RefOf (2 ∷ []) tt (plain (λ _. Vt)) (λ _. tt) in
    let hs : Stays En.signature.params En.kept = (stay_ref (0 ∷ []) tt it, (stay_ref (1 ∷ []) tt it, (stay_dropped at yes, tt))) in
    proved 𝓛 En hs c 𝓜 𝓡 (Goes-ref 𝓛 4 0 tt it, (Goes-ref 𝓛 4 1 tt it, (Goes-dropped 𝓛 4 at yes (λ κs x f. refl), tt))) (#self inst) fn closed
    (λ κs. (mut_vals, (mut_vals, (shr_vals, tt)))) (λ κs. (mut_Tells (named 0) κs.0 Gl, (mut_Tells (named 1) κs.1.0 Gl, (shr_Tells (named 2) κs.1.1.0 Vt, tt)))) (λ κs qs bounds a gh are.
    let g : Gl.Denot = a.0.now in let b : ℕ = a.0.ref_ptr.0 in let o : ℕ = a.0.ref_ptr.1 in let g' : Gl.Denot = a.1.0.now in let b' : ℕ = a.1.0.ref_ptr.0 in let o' : ℕ = a.1.0.ref_ptr.1 in
    let t : Vt.Denot = a.1.1.0.now in let tb : ℕ = a.1.1.0.ref_ptr.0 in let to : ℕ = a.1.1.0.ref_ptr.1 in let z : VaultId = t.vault_id in let κ : Lft = κs.1.1.0 in
    let Asked : Type 0 = (g.vault_id ≡ z) × (g'.vault_id ≡ z) in let Same : Type 0 = (g ≡ g) × (g' ≡ g') in let others : Fml = fsep (flft κs.1.1.1.0 qs.1.1.1.0) ftrue in
    let y : (walk_of 𝓛 En hs c).Ghost = ((κs, qs, bounds, a, (vptr b o ∷ [], (vptr b' o' ∷ [], (vptr tb to ∷ [], tt)))), gh) in let Post : Val → SProp 𝓤 = (walk_of 𝓛 En hs c).post y in
    let Owns : Gl.Denot → VaultId → Fml = λ d i. glance_owns R i d.id d.view d.value in let Acc : ℕ → Cell View → Fml = λ j x. pledge R z.room views rights z.table z.desk j x in
    qed 𝓛 (((‵ (flft κs.0 qs.0) ⊛ ‵ (flft κs.1.0 qs.1.0) ⊛ ‵ (flft κ qs.1.1.0) ⊛ ‵ others) ⊛ ‵ (owns (types_at En.signature.params κs) a y.0.4)) ∷ raw (fact 𝓤 _) ∷ raw (fact 𝓤 Asked) ∷ []) ∵
    keep ! (2 ∷ 0 ∷ []) $ heard ! Asked (λ asked. split ! $ split3 ! $ move ! (2 ∷ []) $ split ! $ move ! (4 ∷ []) $ fsplit3 ! $
    -- mut, mut, ref, κ2, others, κ0, κ1
    fsplit3 ! $ move ! (3 ∷ []) $ fsplit3 ! $ move ! (6 ∷ []) $ fsplit ! $ fsplit ! $ keep ! (1 ∷ 7 ∷ 8 ∷ 11 ∷ 4 ∷ 5 ∷ 12 ∷ 9 ∷ 10 ∷ []) $
    -- vault, obs, bor, κ0, obs', bor', κ1, κ2, others
    enter ! 𝓣.C 𝓣.Λ fn (vptr b o ∷ vptr b' o' ∷ vptr tb to ∷ []) Post $ alloc_all ! (λ l. pass_all ! refl ((tt, tt), ((tt, tt), ((tt, tt), tt))) $
    use1 𝓛 (‵ (hidden_shr (VaultData R) κ (t.at, tt) tb to) ⊛ ‵ (fhide (vault.the_lent R t (block_ptr tb to) κ))) (lent_out 𝓛 (vault.struct R) (vault.the_codes T.Denot R.coded) (vault.the_heap R) (vault.the_lent R) κ t tb to) $
    split ! $ drop ! $ unhide ! $ fsplit ! $ drop ! $ fpick ! (λ x. fsplit3 ! $ drop ! $ drop ! $
    -- m, obs, bor, κ0, obs', bor', κ1, κ2, others
    move ! (1 ∷ 2 ∷ 3 ∷ []) $ opens ! tt Gl b o (λ us. move ! (6 ∷ 7 ∷ 8 ∷ []) $ opens ! tt Gl b' o' (λ vs.
    -- cell', own', obor', obs', auth', cell, own, obor, obs, auth, m, κ2, others
    move ! (6 ∷ []) $ fsplit ! $ move ! (3 ∷ []) $ fsplit ! $ move ! (1 ∷ []) $ rewrite ! 0 (λ (i : VaultId). ‵ (Owns g' i)) asked.1 refl $ fpick ! (λ u'. fsplit3 ! $
    -- account', token', sight', data', data, owns, cell', obor', obs', auth', cell, obor, obs, auth, m, κ2, others
    move ! (5 ∷ []) $ rewrite ! 0 (λ (i : VaultId). ‵ (Owns g i)) asked.0 refl $ fpick ! (λ u. fsplit3 ! $ let r : Round = round_of R u.1.1 g.value in let r' : Round = round_of R u'.1.1 g'.value in
    let w : Cell View = reading g.id g.view u.1.0 r in let w' : Cell View = reading g'.id g'.view u'.1.0 r' in
    -- account, token, sight, account', token', sight', data', data, cell', obor', obs', auth', cell, obor, obs, auth, m, κ2, others
    move ! (16 ∷ 0 ∷ 3 ∷ []) $ use3 𝓛 (later (given (r ≡ r') (‵ (Acc u.0 w) ⊛ ‵ (Acc u'.0 w')))) (alike_now 𝓛 R (param_laws 0 T L).shr_laws z.room views rights z.table z.desk z.memo z.turn x.1.1 u.0 u'.0 w w' refl refl) $
    await ! tt $ learn ! (λ e. let shown : g.value ≡ g'.value = R.coded.inj g.value g'.value (ap (λ (s : Round). s.1) e) in split ! $
    -- account, account', token, sight, token', sight', data', data, cell', obor', obs', auth', cell, obor, obs, auth, κ2, others
    move ! (0 ∷ 2 ∷ 3 ∷ []) $ fjoin3 ! $ fpack ! (ℕ × (Share × ℕ)) (glance_with R z g.id g.view g.value) u $ rewrite ! 0 (λ (i : VaultId). ‵ (Owns g i)) (sym asked.0) refl $ move ! (5 ∷ 0 ∷ []) $ fjoin ! $
    -- own, account', token', sight', data', cell', obor', obs', auth', cell, obor, obs, auth, κ2, others
    move ! (1 ∷ 2 ∷ 3 ∷ []) $ fjoin3 ! $ fpack ! (ℕ × (Share × ℕ)) (glance_with R z g'.id g'.view g'.value) u' $ rewrite ! 0 (λ (i : VaultId). ‵ (Owns g' i)) (sym asked.1) refl $ move ! (2 ∷ 0 ∷ []) $ fjoin ! $
    -- own', own, cell', obor', obs', auth', cell, obor, obs, auth, κ2, others
    move ! (2 ∷ 0 ∷ 3 ∷ 4 ∷ 5 ∷ []) $ closes ! tt Gl g' vs b' o' $ feq_i ! (List Val) (vptr b' o' ∷ []) (vptr b' o' ∷ []) refl $ fjoin3 ! $
    -- mut', κ1, own, cell, obor, obs, auth, κ2, others
    move ! (3 ∷ 2 ∷ 4 ∷ 5 ∷ 6 ∷ []) $ closes ! tt Gl g us b o $ feq_i ! (List Val) (vptr b o ∷ []) (vptr b o ∷ []) refl $ fjoin3 ! $
    -- mut, κ0, mut', κ1, κ2, others
    nothing ! $ nothing ! $ fjoin ! $ move ! (3 ∷ 0 ∷ []) $ fjoin ! $ move ! (1 ∷ 0 ∷ []) $ fjoin ! $ move ! (3 ∷ 4 ∷ []) $ join ! $ move ! (3 ∷ 0 ∷ []) $ join ! $ move ! (2 ∷ 0 ∷ []) $ join ! $
    -- tokens, owned
    sets ! (of_opd ! (unit_lit !)) refl (tt, tt) $ use0 𝓛 (raw (fact 𝓤 (g.value ≡ g'.value))) (fact_i 𝓤 (g.value ≡ g'.value) (emp 𝓤) shown) $ use0 𝓛 (raw (fact 𝓤 Same)) (fact_i 𝓤 Same (emp 𝓤) (refl, refl)) $ join ! $
    feq_i ! (List Val) (vunit ∷ []) (vunit ∷ []) refl $
    returns ! (look_at ! 0 refl) $ free_all ! refl $ keep ! (2 ∷ 3 ∷ 0 ∷ 1 ∷ []) $ by ! (leaves 𝓛 En hs c y vunit tt (g, (g', (tt, tt))) (tt, (tt, (tt, tt)))))))))))))
