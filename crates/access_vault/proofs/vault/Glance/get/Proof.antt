-- `get` shows the value for as long as the vault and the right are borrowed.
use Rattle.atomic_table.proofs.Names.{◌≡◌, ℕ, List, [], ◌∷◌, ◌++◌, refl, sym, ap, ◌∙◌, a_type, named, Val, vptr, inst_fn, SProp, emp, Lft, Share, Fml, ftrue, flft, ‵, raw, ◌⊛◌, at_ret, ◌$◌, ◌∵◌, !, qed, by, move, keep, drop, split, split3, join, fsplit, fsplit3, fjoin, use0, use1, use2, rewrite, feq_i, stop, fld, addr, of_opd, first, blocks, exec, returns, enter, alloc_all, pass_all, free_all, look_at, get, through, sets, sets_last, env, sub, whole, look_in, tables, yes, RattleType, owns, types_at, plain, Ptr, block_ptr, nothing, heard, peeks, looks, shuts, param, layouts, Stays, stay_dropped, walk_of, Goes-dropped, fact, fact_i, RefOf, shr_vals, shr_Tells, unhide, lent_out, hidden_shr, cell_at, Is, shows}
use types.Kit.{fpick}
use types.Run.{hop}
use base.Fml.{fhide}
use contract.BorrowLft.{meet_⊑_left, meet_⊑_right, ⊑_meet}
use denote.Moves.{moves}
use denote.SharingLaws.{shortens}
use denote.Param.Laws.{param_laws}
use Rattle.atomic_table.proofs.Walks.{proved, leaves}
use Rattle.core.proofs.atomic.Steps.{tail}
use Rattle.core.specs.contracts.marker.PhantomData as marker
use Rattle.lock_place.specs.Held.{age, place, seen_at}
use Rattle.access_vault.specs.Kept.{VaultId, glance_shares}
use Rattle.access_vault.specs.contracts.vault.Vault as vault
use Rattle.access_vault.specs.contracts.vault.Glance as glance
use Rattle.access_vault.proofs.Fields.{strip_of, VaultData, vault_told, vault_opens, GlanceData}
use Rattle.access_vault.specs.contracts.vault.Glance.get.{ended, clauses}
use Rattle.access_vault.specs.contracts.vault.Glance.get.Key.{name as #self}
use Rattle.access_vault.proofs.vault.Glance.get.Statement.{statement}
use Rattle.access_vault.proofs.vault.Glance.get.Code as code

pub get_spec : {M : Type 1} → statement M
get_spec 𝓤 𝓛 𝓜 𝓡 wired T L =
    let H = 𝓛.H in let A = 𝓛.A in let 𝓣 = tables 𝓤 H 𝓜 𝓡 𝓡.env in let R : RattleType = param 0 T in let En = ended T in let c = clauses T 𝓛 𝓜.mem 𝓡.returns in
    let inst = layouts (a_type ∷ []) (T, tt) in let fn = inst_fn inst code.function in let closed = code.unfolded 𝓤 H 𝓜 𝓡 wired (T, tt) in
    let Row : RattleType = vault.the_row R in let Sn : RattleType = glance.the_row R in
    let me = RefOf (0 ∷ []) tt (plain (λ _. Sn)) (λ _. tt) in let at = RefOf (0 ∷ []) tt (plain (λ _. Row)) (λ _. tt) in let hs : Stays En.signature.params En.kept = (stay_dropped me yes, (stay_dropped at yes, tt)) in
    proved 𝓛 En hs c 𝓜 𝓡 (Goes-dropped 𝓛 2 me yes (λ κs x f. refl), (Goes-dropped 𝓛 2 at yes (λ κs x f. refl), tt)) (#self inst) fn closed
    (λ κs. (shr_vals, (shr_vals, tt))) (λ κs. (shr_Tells (named 0) κs.0 Sn, (shr_Tells (named 0) κs.0 Row, tt))) (λ κs qs bounds a gh are.
    let h : Sn.Denot = a.0.now in let hb : ℕ = a.0.ref_ptr.0 in let ho : ℕ = a.0.ref_ptr.1 in let t : Row.Denot = a.1.0.now in let b : ℕ = a.1.0.ref_ptr.0 in let o : ℕ = a.1.0.ref_ptr.1 in let κ : Lft = κs.0 in let q : Share = qs.0 in let τ : Lft = κs.1.0 in let s : Share = qs.1.0 in
    let z : VaultId = t.vault_id in let p : Ptr = t.at in let x : T.Denot = h.value in let α : Lft = age z.room in let D : RattleType = VaultData R in let V : Lft → Fml = seen_at R z.room x in let LR = param_laws 0 T L in let Asked : Type 0 = h.vault_id ≡ z in
    let y : (walk_of 𝓛 En hs c).Ghost = ((κs, qs, bounds, a, (vptr hb ho ∷ [], (vptr b o ∷ [], tt))), gh) in let Post : Val → SProp 𝓤 = (walk_of 𝓛 En hs c).post y in
    qed 𝓛 (((‵ (flft κ q) ⊛ ‵ (flft τ s) ⊛ ‵ ftrue) ⊛ ‵ (owns (types_at En.signature.params κs) a y.0.4)) ∷ raw (fact 𝓤 _) ∷ raw (fact 𝓤 Asked) ∷ []) ∵
    keep ! (2 ∷ 0 ∷ []) $ heard ! Asked (λ asked. split ! $ split3 ! $ move ! (3 ∷ []) $ fsplit3 ! $ fsplit ! $ move ! (2 ∷ []) $ fsplit ! $ keep ! (1 ∷ 3 ∷ 5 ∷ 6 ∷ []) $
    enter ! 𝓣.C 𝓣.Λ fn (vptr hb ho ∷ vptr b o ∷ []) Post $ alloc_all ! (λ l. pass_all ! refl ((tt, tt), ((tt, tt), tt)) $ let Ev = env fn.locals l in
    move ! (1 ∷ []) $
    use1 𝓛 (‵ (hidden_shr (GlanceData R) κ (tt, tt) hb ho) ⊛ ‵ (fhide (glance.the_lent R h (block_ptr hb ho) κ))) (lent_out 𝓛 (glance.struct R) (glance.the_codes T.Denot R.coded (marker.the_row R).coded) (glance.the_heap R) (glance.the_lent R) κ h hb ho) $
    split ! $ drop ! $ unhide ! $ rewrite ! 0 (λ (i : VaultId). ‵ (glance_shares R i x κ)) asked refl $ move ! (1 ∷ []) $
    use1 𝓛 (‵ (hidden_shr D κ (p, tt) b o) ⊛ ‵ (fhide (vault.the_lent R t (block_ptr b o) κ))) (lent_out 𝓛 (vault.struct R) (vault.the_codes T.Denot R.coded) (vault.the_heap R) (vault.the_lent R) κ t b o) $
    split ! $ move ! (1 ∷ []) $ unhide ! $ fsplit ! $ move ! (1 ∷ []) $ drop ! $ fsplit ! $ move ! (1 ∷ []) $ fpick ! (λ at. drop ! $ move ! (2 ∷ []) $
    use1 𝓛 (‵ (V (α ++ κ))) (shortens 𝓛 V (LR.shr_laws x z.room.block z.room.offset) (κ ++ α) (α ++ κ) (⊑_meet (α ++ κ) κ α (meet_⊑_right α κ) (meet_⊑_left α κ))) $ move ! (1 ∷ 0 ∷ []) $
    use2 𝓛 (‵ (hidden_shr R κ x z.room.block z.room.offset)) (moves 𝓛 V (LR.shr_laws x z.room.block z.room.offset) κ α) $ move ! (1 ∷ 2 ∷ []) $
    looks ! tt D (vault_opens R 𝓛) (p, tt) b o (λ q' vs. move ! (1 ∷ []) $ peeks ! D (Is D) (shows 𝓛 D) (p, tt) vs (λ is-so. let ev : vs ≡ strip_of (place z.room) ∷ [] = vault_told R p vs is-so ∙ ap (λ (r : Ptr). strip_of r ∷ []) at.0 in
    rewrite ! 1 (λ (ws : List Val). ‵ (cell_at q' D.mir ws b o)) ev refl $ first ! $ blocks ! $
    sets_last ! (addr ! (through ! refl (fld ! refl (hop ! (look_in ! 1 (sub ! 0 refl (whole !))) (stop !))))) refl (tt, tt) $ exec ! 𝓣.C 𝓣.Λ Ev (tail fn.body) (at_ret Ev Post) $
    sets ! (of_opd ! (get ! refl)) refl (tt, tt) $ rewrite ! 1 (λ (ws : List Val). ‵ (cell_at q' D.mir ws b o)) (sym ev) refl $ move ! (1 ∷ 0 ∷ 2 ∷ []) $ shuts ! tt D q' (p, tt) vs b o $
    nothing ! $ move ! (4 ∷ 0 ∷ []) $ join ! $ move ! (1 ∷ 0 ∷ []) $ join ! $ move ! (2 ∷ []) $ feq_i ! (List Val) (vptr z.room.block z.room.offset ∷ []) (vptr z.room.block z.room.offset ∷ []) refl $ fjoin ! $
    use0 𝓛 (raw (fact 𝓤 (x ≡ x))) (fact_i 𝓤 (x ≡ x) (emp 𝓤) refl) $ nothing ! $ nothing ! $ fjoin ! $ nothing ! $ fjoin ! $
    returns ! (look_at ! 0 refl) $ free_all ! refl $ keep ! (3 ∷ 0 ∷ 2 ∷ 1 ∷ []) $ by ! (leaves 𝓛 En hs c y (vptr z.room.block z.room.offset) (record { ref_ptr = (z.room.block, z.room.offset); now = x }) (tt, (tt, tt)) (tt, (tt, tt)))))))))
