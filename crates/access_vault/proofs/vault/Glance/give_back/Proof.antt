-- The right goes back to the vault, and the seat comes out of pledge.
use Rattle.atomic_table.proofs.Names.{◌≡◌, ℕ, List, [], ◌∷◌, refl, a_type, named, Val, vunit, vptr, inst_fn, SProp, emp, Lft, Fml, ftrue, fsep, flft, ‵, raw, ◌⊛◌, later, ◌$◌, ◌∵◌, !, qed, by, move, keep, drop, split, split3, join, fsplit, fsplit3, fjoin, fjoin3, use0, use1, use2, await, rewrite, feq_i, unit_lit, of_opd, returns, enter, alloc_all, pass_all, free_all, look_at, sets, tables, yes, no, RattleType, owns, types_at, plain, block_ptr, nothing, heard, param, layouts, Stays, stay_dropped, stay_ref, walk_of, Goes-dropped, Goes-ref, fact, fact_i, RefOf, shr_vals, shr_Tells, mut_vals, mut_Tells, unhide, lent_out, hidden_shr, opens, closes}
use types.Kit.{fpick}
use base.Fml.{fhide}
use Rattle.atomic_table.proofs.Walks.{proved, leaves}
use Rattle.atomic_table.specs.contracts.badge.Badge as badge
use Rattle.words_access.specs.contracts.view.View as view
use Rattle.access_vault.specs.Kept.{VaultId, glance_owns, rights, views}
use Rattle.access_vault.specs.Vault.{round_of, seat}
use Rattle.access_vault.proofs.Lending.{reads_no_more}
use denote.Param.Laws.{param_laws}
use Rattle.access_vault.specs.contracts.vault.Vault as vault
use Rattle.access_vault.specs.contracts.vault.Glance as glance
use Rattle.access_vault.proofs.Fields.{token_val, glance_told, VaultData}
use Rattle.access_vault.specs.contracts.vault.Glance.give_back.{ended, clauses}
use Rattle.access_vault.specs.contracts.vault.Glance.give_back.Key.{name as #self}
use Rattle.access_vault.proofs.vault.Glance.give_back.Statement.{statement}
use Rattle.access_vault.proofs.vault.Glance.give_back.Code as code

pub give_back_spec : {M : Type 1} → statement M
give_back_spec 𝓤 𝓛 𝓜 𝓡 wired T L =
    let H = 𝓛.H in let A = 𝓛.A in let 𝓣 = tables 𝓤 H 𝓜 𝓡 𝓡.env in let R : RattleType = param 0 T in let En = ended T in let c = clauses T 𝓛 𝓜.mem 𝓡.returns in
    let inst = layouts (a_type ∷ []) (T, tt) in let fn = inst_fn inst code.function in let closed = code.unfolded 𝓤 H 𝓜 𝓡 wired (T, tt) in
    let Gl : RattleType = glance.the_row R in let Vt : RattleType = vault.the_row R in let Br : RattleType = badge.the_row view.the_row in
    let me = plain (λ _. Gl) in let at = RefOf (0 ∷ []) tt (plain (λ _. Vt)) (λ _. tt) in let it = plain (λ _. Br) in let hs : Stays En.signature.params En.kept = (stay_dropped me no, (stay_dropped at yes, (stay_ref (1 ∷ []) tt it, tt))) in
    proved 𝓛 En hs c 𝓜 𝓡 (Goes-dropped 𝓛 3 me no (λ κs x f. refl), (Goes-dropped 𝓛 3 at yes (λ κs x f. refl), (Goes-ref 𝓛 3 1 tt it, tt))) (#self inst) fn closed
    (λ κs. ((λ _. token_val ∷ []), (shr_vals, (mut_vals, tt)))) (λ κs. ((λ x vs so. glance_told R vs so.0), (shr_Tells (named 0) κs.0 Vt, (mut_Tells (named 1) κs.1.0 Br, tt)))) (λ κs qs bounds a gh are.
    let g : Gl.Denot = a.0 in let t : Vt.Denot = a.1.0.now in let b : ℕ = a.1.0.ref_ptr.0 in let o : ℕ = a.1.0.ref_ptr.1 in let d : Br.Denot = a.1.1.0.now in let b' : ℕ = a.1.1.0.ref_ptr.0 in let o' : ℕ = a.1.1.0.ref_ptr.1 in
    let z : VaultId = t.vault_id in let Asked : Type 0 = (g.vault_id ≡ z) × (d.views ≡ []) in let others : Fml = fsep (flft κs.1.1.0 qs.1.1.0) ftrue in
    let y : (walk_of 𝓛 En hs c).Ghost = ((κs, qs, bounds, a, (token_val ∷ [], (vptr b o ∷ [], (vptr b' o' ∷ [], tt)))), gh) in let Post : Val → SProp 𝓤 = (walk_of 𝓛 En hs c).post y in
    let d' : Br.Denot = record { marker = d.marker; table_id = z.table; id = g.id; views = g.view ∷ [] } in let Told : Type 0 = (z.table ≡ z.table) × (g.id ≡ g.id) × (d'.views ≡ d'.views) in let κ : Lft = κs.0 in
    qed 𝓛 (((‵ (flft κs.0 qs.0) ⊛ ‵ (flft κs.1.0 qs.1.0) ⊛ ‵ others) ⊛ ‵ (owns (types_at En.signature.params κs) a y.0.4)) ∷ raw (fact 𝓤 _) ∷ raw (fact 𝓤 Asked) ∷ []) ∵
    keep ! (2 ∷ 0 ∷ []) $ heard ! Asked (λ asked. split ! $ split3 ! $ move ! (3 ∷ []) $ fsplit3 ! $ fsplit ! $ move ! (2 ∷ []) $ fsplit ! $ move ! (4 ∷ []) $ fsplit ! $ fsplit3 ! $ keep ! (1 ∷ 2 ∷ 5 ∷ 7 ∷ 8 ∷ 9 ∷ 10 ∷ []) $
    enter ! 𝓣.C 𝓣.Λ fn (token_val ∷ vptr b o ∷ vptr b' o' ∷ []) Post $ alloc_all ! (λ l. pass_all ! refl ((tt, (tt, tt)), ((tt, tt), ((tt, tt), tt))) $
    move ! (2 ∷ []) $
    use1 𝓛 (‵ (hidden_shr (VaultData R) κ (t.at, tt) b o) ⊛ ‵ (fhide (vault.the_lent R t (block_ptr b o) κ))) (lent_out 𝓛 (vault.struct R) (vault.the_codes T.Denot R.coded) (vault.the_heap R) (vault.the_lent R) κ t b o) $
    split ! $ drop ! $ unhide ! $ fsplit ! $ drop ! $ fpick ! (λ x. fsplit3 ! $ drop ! $ drop ! $ move ! (3 ∷ []) $ rewrite ! 0 (λ (i : VaultId). ‵ (glance_owns R i g.id g.view g.value)) asked.0 refl $ fpick ! (λ u. fsplit3 ! $
    join ! $ move ! (2 ∷ 0 ∷ []) $
    use2 𝓛 (later (‵ (seat views.code rights z.table g.id g.view))) (reads_no_more 𝓛 R (param_laws 0 T L).shr_laws z.room views rights z.table z.desk z.memo z.turn x.1.1 g.id g.view u.1.0 (round_of R u.1.1 g.value) u.0) $ await ! tt $
    move ! (2 ∷ 3 ∷ 5 ∷ []) $ opens ! tt Br b' o' (λ ts. move ! (1 ∷ []) $ fsplit ! $ move ! (0 ∷ 6 ∷ 2 ∷ 3 ∷ 4 ∷ 5 ∷ []) $ fjoin ! $ move ! (1 ∷ 0 ∷ []) $
    closes ! tt Br d' ts b' o' $ feq_i ! (List Val) (vptr b' o' ∷ []) (vptr b' o' ∷ []) refl $ fjoin3 ! $ nothing ! $ move ! (1 ∷ 0 ∷ []) $ fjoin ! $ nothing ! $ fjoin ! $ nothing ! $ fjoin ! $
    move ! (1 ∷ 5 ∷ []) $ join ! $ move ! (4 ∷ 0 ∷ []) $ join ! $
    sets ! (of_opd ! (unit_lit !)) refl (tt, tt) $ use0 𝓛 (raw (fact 𝓤 Told)) (fact_i 𝓤 Told (emp 𝓤) (refl, refl, refl)) $ feq_i ! (List Val) (vunit ∷ []) (vunit ∷ []) refl $
    returns ! (look_at ! 0 refl) $ free_all ! refl $ keep ! (2 ∷ 3 ∷ 0 ∷ 1 ∷ []) $ by ! (leaves 𝓛 En hs c y vunit tt (tt, (tt, (d', tt))) (tt, (tt, (tt, tt))))))))))
