-- The seat goes into pledge, and the value is lent for reading.
use Rattle.atomic_table.proofs.Names.{◌≡◌, ℕ, List, [], ◌∷◌, refl, ◌∙◌, a_type, named, Val, vptr, inst_fn, SProp, emp, Lft, Share, Fml, ftrue, fsep, flft, ‵, raw, ◌⊛◌, some, later, ◌$◌, ◌∵◌, !, qed, by, move, keep, drop, split, split3, join, fsplit, fsplit3, fjoin, fjoin3, pick, use0, use1, use3, await, rewrite, feq_i, no_more, and_then, returns, enter, alloc_all, pass_all, free_all, look_at, get, sets, agg, tables, yes, RattleType, owns, types_at, plain, block_ptr, nothing, heard, param, layouts, Stays, stay_dropped, stay_ref, walk_of, Goes-dropped, Goes-ref, fact, fact_i, RefOf, shr_vals, shr_Tells, mut_vals, mut_Tells, unhide, lent_out, hidden_shr, opens, closes, Tuple, shr_bor-open, obor_close, tokens_halve}
use types.Kit.{fpick, fpack}
use base.Fml.{fhide}
use denote.Builtin.{unit}
use denote.Param.Laws.{param_laws}
use Rattle.atomic_table.proofs.Walks.{proved, leaves}
use Rattle.atomic_table.proofs.Fields.{HandData}
use Rattle.atomic_table.specs.Seated.{TableId, badge_owns, lasts}
use Rattle.atomic_table.specs.Seated as tb
use Rattle.core.specs.contracts.marker.PhantomData as marker
use Rattle.atomic_table.specs.contracts.shared.Shared as table
use Rattle.atomic_table.specs.contracts.badge.Badge as badge
use Rattle.words_access.specs.contracts.rule.AccessRuleTableRuleViewUnit.TheImpl as imp
use Rattle.words_access.specs.contracts.rule.AccessRule as rule
use Rattle.words_access.specs.contracts.view.View as view
use Rattle.access_core.specs.contracts.lists.Lists as slot
use Rattle.words_access.specs.declared.view.View.{View}
use Rattle.words_access.proofs.Keeps.{alone_with}
use Rattle.access_core.specs.Contents.{readers_of, writer_of}
use Rattle.access_core.specs.declared.lists.Lists.{Lists}
use Rattle.access_core.specs.contracts.lists.ListsContent.TheImpl as content
use Rattle.access_vault.specs.Vault.{round_of, reading, pledge, sight}
use Rattle.access_vault.proofs.Lending.{reads}
use Rattle.access_vault.specs.Kept.{VaultId, rights, views, IsRuled, glance_with}
use Rattle.access_vault.specs.contracts.vault.Vault as vault
use Rattle.access_vault.specs.contracts.vault.Glance as glance
use Rattle.access_vault.proofs.Fields.{token_val, glance_made, VaultData}
use Rattle.access_vault.specs.contracts.vault.Vault.read.{ended, clauses}
use Rattle.access_vault.specs.contracts.vault.Vault.read.Key.{name as #self}
use Rattle.access_vault.proofs.vault.Vault.read.Statement.{statement}
use Rattle.access_vault.proofs.vault.Vault.read.Code as code

pub read_spec : {M : Type 1} → statement M
unfolding Rattle.atomic_table.specs.Seated.seal
read_spec 𝓤 𝓛 𝓜 𝓡 wired T L =
    let H = 𝓛.H in let A = 𝓛.A in let 𝓣 = tables 𝓤 H 𝓜 𝓡 𝓡.env in let R : RattleType = param 0 T in let En = ended T in let c = clauses T 𝓛 𝓜.mem 𝓡.returns in
    let inst = layouts (a_type ∷ []) (T, tt) in let fn = inst_fn inst code.function in let closed = code.unfolded 𝓤 H 𝓜 𝓡 wired (T, tt) in
    let So : RattleType = slot.the_row in let Vw : RattleType = view.the_row in let Ru : RattleType = rule.the_row in
    let Row : RattleType = table.the_row So Vw unit Ru (imp.ghosts slot.the_row content.ghosts imp.no_dict) in let Vt : RattleType = vault.the_row R in let Br : RattleType = badge.the_row Vw in let Gl : RattleType = glance.the_row R in
    let self = RefOf (0 ∷ []) tt (plain (λ _. Vt)) (λ _. tt) in let at = RefOf (1 ∷ []) tt (plain (λ _. Row)) (λ _. tt) in let it = plain (λ _. Br) in
    let hs : Stays En.signature.params En.kept = (stay_dropped self yes, (stay_dropped at yes, (stay_ref (2 ∷ []) tt it, tt))) in
    proved 𝓛 En hs c 𝓜 𝓡 (Goes-dropped 𝓛 4 self yes (λ κs x f. refl), (Goes-dropped 𝓛 4 at yes (λ κs x f. refl), (Goes-ref 𝓛 4 2 tt it, tt))) (#self inst) fn closed
    (λ κs. (shr_vals, (shr_vals, (mut_vals, tt)))) (λ κs. (shr_Tells (named 0) κs.0 Vt, (shr_Tells (named 1) κs.1.0 Row, (mut_Tells (named 2) κs.1.1.0 Br, tt)))) (λ κs qs bounds a gh are.
    let s : Vt.Denot = a.0.now in let b : ℕ = a.0.ref_ptr.0 in let o : ℕ = a.0.ref_ptr.1 in let t : Row.Denot = a.1.0.now in let c' : ℕ = a.1.0.ref_ptr.0 in let e' : ℕ = a.1.0.ref_ptr.1 in
    let d : Br.Denot = a.1.1.0.now in let b' : ℕ = a.1.1.0.ref_ptr.0 in let o' : ℕ = a.1.1.0.ref_ptr.1 in let z : VaultId = s.vault_id in let α : Lft = tb.age z.table in let κ : Lft = κs.0 in let κ' : Lft = κs.1.0 in
    let AskedT : Type 0 = (t.table_id ≡ z.table) × (d.table_id ≡ t.table_id) in let AskedR : Type 0 = (v : View) × (d.views ≡ v ∷ []) × (v.reads ≡ mathlib.Core.Bool.true) in let others : Fml = fsep (flft κs.1.1.1.0 qs.1.1.1.0) ftrue in
    let y : (walk_of 𝓛 En hs c).Ghost = ((κs, qs, bounds, a, (vptr b o ∷ [], (vptr c' e' ∷ [], (vptr b' o' ∷ [], tt)))), gh) in let Post : Val → SProp 𝓤 = (walk_of 𝓛 En hs c).post y in
    qed 𝓛 (((‵ (flft κs.0 qs.0) ⊛ ‵ (flft κs.1.0 qs.1.0) ⊛ ‵ (flft κs.1.1.0 qs.1.1.0) ⊛ ‵ others) ⊛ ‵ (owns (types_at En.signature.params κs) a y.0.4)) ∷ raw (fact 𝓤 _) ∷ raw (fact 𝓤 AskedT) ∷ raw (fact 𝓤 AskedR) ∷ []) ∵
    keep ! (2 ∷ 3 ∷ 0 ∷ []) $ heard ! AskedT (λ asked. heard ! AskedR (λ right. let v : View = right.0 in split ! $ split3 ! $ move ! (2 ∷ []) $ split ! $ move ! (4 ∷ []) $ fsplit3 ! $
    -- ref, ref, mut, κ2, others, κ0, κ1
    fsplit ! $ move ! (2 ∷ []) $ fsplit ! $ move ! (4 ∷ []) $ fsplit ! $ fsplit3 ! $ keep ! (5 ∷ 7 ∷ 1 ∷ 2 ∷ 8 ∷ 11 ∷ 10 ∷ 9 ∷ []) $
    -- table, vault, obs, bor, κ2, κ1, κ0, others
    enter ! 𝓣.C 𝓣.Λ fn (vptr b o ∷ vptr c' e' ∷ vptr b' o' ∷ []) Post $ alloc_all ! (λ l. pass_all ! refl ((tt, tt), ((tt, tt), ((tt, tt), tt))) $
    use1 𝓛 (‵ (hidden_shr (HandData So Vw unit Ru (imp.ghosts slot.the_row content.ghosts imp.no_dict)) κ' (t.words, (t.slots, (tt, tt))) c' e') ⊛ ‵ (fhide (table.the_lent So Vw unit Ru (imp.ghosts slot.the_row content.ghosts imp.no_dict) t (block_ptr c' e') κ')))
    (lent_out 𝓛 (table.struct So Vw unit Ru (imp.ghosts slot.the_row content.ghosts imp.no_dict)) (table.the_codes So.Denot Vw.Denot unit.Denot Ru.Denot So.coded Vw.coded unit.coded Ru.coded (marker.the_row (Tuple (Ru ∷ Vw ∷ unit ∷ []))).coded) (table.the_heap So Vw unit Ru (imp.ghosts slot.the_row content.ghosts imp.no_dict)) (table.the_lent So Vw unit Ru (imp.ghosts slot.the_row content.ghosts imp.no_dict)) κ' t c' e') $
    split ! $ drop ! $ unhide ! $ fsplit ! $ move ! (1 ∷ []) $ drop ! $ rewrite ! 0 (λ (x : TableId). ‵ (lasts x κ')) asked.0 refl $ move ! (0 ∷ 5 ∷ []) $
    shr_bor-open ! tt (tokens_halve 𝓛 α) (λ q'. move ! (2 ∷ []) $
    use1 𝓛 (‵ (hidden_shr (VaultData R) κ (s.at, tt) b o) ⊛ ‵ (fhide (vault.the_lent R s (block_ptr b o) κ))) (lent_out 𝓛 (vault.struct R) (vault.the_codes T.Denot R.coded) (vault.the_heap R) (vault.the_lent R) κ s b o) $
    split ! $ drop ! $ unhide ! $ fsplit ! $ drop ! $ fpick ! (λ x. fsplit3 ! $ fpick ! (λ ne. drop ! $
    -- n, m, open, token, obs, bor, κ2, κ0, others
    move ! (4 ∷ 5 ∷ 6 ∷ []) $ opens ! tt Br b' o' (λ us. move ! (1 ∷ []) $ fsplit ! $ move ! (1 ∷ []) $
    rewrite ! 0 (λ (vs : List View). ‵ (badge_owns views.code d.table_id d.id vs)) right.1 refl $ rewrite ! 0 (λ (i : TableId). ‵ (badge_owns views.code i d.id (v ∷ []))) (asked.1 ∙ asked.0) refl $
    -- seat, data, cell, obor, obs, auth, n, m, open, token, κ0, others
    move ! (9 ∷ 0 ∷ []) $ join ! $ move ! (6 ∷ 7 ∷ 0 ∷ []) $
    use3 𝓛 (later (some (λ (u : ℕ × (Share × (ℕ × T.Denot))). ‵ (pledge R z.room views rights z.table z.desk u.0 (reading d.id v u.1.0 (round_of R u.1.1.0 u.1.1.1))) ⊛ ‵ (flft (u.1.1.0 ∷ []) u.1.0) ⊛ ‵ (sight R z.room u.1.1.0 u.1.1.1)) ⊛ ‵ (flft α q')))
    (reads 𝓛 R (param_laws 0 T L).shr_laws z.room views rights z.table z.desk z.memo z.turn So IsRuled (alone_with Lists readers_of writer_of) x.0.0 x.0.1 x.1.0 x.1.1 ne q' d.id v right.2) $ await ! tt $ split ! $ pick ! (λ u. split3 ! $
    -- account, token of the round, sight, token, data, cell, obor, obs, auth, open, κ0, others
    fjoin3 ! $ fpack ! (ℕ × (Share × ℕ)) (glance_with R z d.id v u.1.1.1) (u.0, (u.1.0, u.1.1.0)) $ move ! (7 ∷ 1 ∷ []) $ obor_close ! tt $ drop ! $
    -- κ1, glance, data, cell, obor, obs, auth, κ0, others
    let d' : Br.Denot = record { marker = d.marker; table_id = d.table_id; id = d.id; views = [] } in let r : Gl.Denot = record { marker = record {}; vault_id = z; id = d.id; view = v; value = u.1.1.1 } in
    let Told : Type 0 = (z ≡ z) × (d.id ≡ d.id) × (d.views ≡ v ∷ []) × (d'.views ≡ d'.views) in
    move ! (2 ∷ []) $ nothing ! $ move ! (1 ∷ 0 ∷ []) $ fjoin ! $ move ! (3 ∷ 0 ∷ 4 ∷ 5 ∷ 6 ∷ []) $ closes ! tt Br d' us b' o' $ feq_i ! (List Val) (vptr b' o' ∷ []) (vptr b' o' ∷ []) refl $ fjoin3 ! $
    nothing ! $ move ! (1 ∷ 0 ∷ []) $ fjoin ! $ nothing ! $ fjoin ! $ nothing ! $ fjoin ! $ move ! (1 ∷ 5 ∷ []) $ join ! $ move ! (2 ∷ 0 ∷ []) $ join ! $ move ! (3 ∷ 0 ∷ []) $ join ! $
    -- tokens, owned, glance
    move ! (2 ∷ []) $ use0 𝓛 (‵ ((Rattle.access_vault.proofs.Fields.GlanceData R).own_val (tt, tt) (token_val ∷ []))) (glance_made R 𝓛) $ fjoin ! $
    sets ! (agg ! (no_more !)) refl (tt, tt) $ sets ! (agg ! (and_then ! (get ! refl) (no_more !))) refl (tt, (tt, tt)) $
    use0 𝓛 (raw (fact 𝓤 Told)) (fact_i 𝓤 Told (emp 𝓤) (refl, refl, right.1, refl)) $
    returns ! (look_at ! 0 refl) $ free_all ! refl $ keep ! (2 ∷ 3 ∷ 1 ∷ 0 ∷ []) $ by ! (leaves 𝓛 En hs c y token_val r (tt, (tt, (d', tt))) (tt, (tt, (tt, tt)))))))))))))
