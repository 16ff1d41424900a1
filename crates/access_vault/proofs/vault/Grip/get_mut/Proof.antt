-- `get_mut` lends the value, and the grip follows it.
use Rattle.atomic_table.proofs.Names.{◌≡◌, ℕ, List, [], ◌∷◌, refl, sym, ap, ◌∙◌, a_type, named, Val, vptr, inst_fn, SProp, ent, sep, emp, Lft, Share, Fml, ftrue, fsep, flft, fbor, fobs, sem, ‵, raw, ◌⊛◌, some, later, at_ret, ◌$◌, ◌∵◌, !, qed, by, move, keep, drop, split, split3, join, fsplit, fsplit3, fjoin, fjoin3, pick, use0, use1, await, rewrite, feq_i, group, done, stop, fld, addr, of_opd, first, blocks, exec, returns, enter, alloc_all, pass_all, free_all, look_at, get, through, sets, sets_last, env, sub, whole, look_in, tables, yes, no, RattleType, owns, types_at, plain, Ptr, block_ptr, nothing, heard, peeks, looks, shuts, param, layouts, Stays, stay_dropped, walk_of, Goes-dropped, Goes-spent_ref, fact, fact_i, mem, RefOf, RefMutOf, mut_vals, mut_Tells, shr_vals, shr_Tells, unhide, lent_out, hidden_shr, part_at, part_out, part_in, cell_at, full_share, Is, shows, Body, follows}
use types.Kit.{fpick}
use types.Run.{hop}
use base.Fml.{fhide}
use Rattle.atomic_table.proofs.Walks.{proved, leaves}
use Rattle.core.proofs.atomic.Steps.{tail}
use Rattle.lock_place.specs.Held.{age, place, held}
use types.Kit.{fpack}
use base.Fml.{fex}
use Rattle.access_vault.specs.Vault.{pledge, writing}
use Rattle.access_vault.specs.Kept.{VaultId, rights, views, grip_with, grip_owns}
use Rattle.access_vault.specs.contracts.vault.Vault as vault
use Rattle.access_vault.specs.contracts.vault.Grip as grip
use Rattle.access_vault.proofs.Fields.{strip_of, VaultData, vault_told, vault_opens, GripData}
use Rattle.atomic_table.proofs.Through.{hands_out}
use Rattle.access_vault.specs.Lent.{grip_with_value}
use Rattle.access_vault.specs.contracts.vault.Grip.get_mut.{ended, clauses}
use Rattle.access_vault.specs.contracts.vault.Grip.get_mut.Key.{name as #self}
use Rattle.access_vault.proofs.vault.Grip.get_mut.Statement.{statement}
use Rattle.access_vault.proofs.vault.Grip.get_mut.Code as code

pub get_mut_spec : {M : Type 1} → statement M
get_mut_spec 𝓤 𝓛 𝓜 𝓡 wired T L =
    let H = 𝓛.H in let A = 𝓛.A in let 𝓣 = tables 𝓤 H 𝓜 𝓡 𝓡.env in let R : RattleType = param 0 T in let En = ended T in let c = clauses T 𝓛 𝓜.mem 𝓡.returns in
    let inst = layouts (a_type ∷ []) (T, tt) in let fn = inst_fn inst code.function in let closed = code.unfolded 𝓤 H 𝓜 𝓡 wired (T, tt) in
    let Row : RattleType = vault.the_row R in let Hr : RattleType = grip.the_row R in
    let me = RefMutOf (0 ∷ []) tt (plain (λ _. Hr)) (λ _. tt) in let at = RefOf (0 ∷ []) tt (plain (λ _. Row)) (λ _. tt) in let hs : Stays En.signature.params En.kept = (stay_dropped me no, (stay_dropped at yes, tt)) in
    proved 𝓛 En hs c 𝓜 𝓡 (Goes-spent_ref 𝓛 2 (0 ∷ []) tt (plain (λ _. Hr)), (Goes-dropped 𝓛 2 at yes (λ κs x f. refl), tt)) (#self inst) fn closed
    (λ κs. (mut_vals, (shr_vals, tt))) (λ κs. (mut_Tells (named 0) κs.0 Hr, (shr_Tells (named 0) κs.0 Row, tt))) (λ κs qs bounds a gh are.
    let h : Hr.Denot = a.0.now in let hb : ℕ = a.0.ref_ptr.0 in let ho : ℕ = a.0.ref_ptr.1 in let γ : ℕ = a.0.ghost_name in let t : Row.Denot = a.1.0.now in let b : ℕ = a.1.0.ref_ptr.0 in let o : ℕ = a.1.0.ref_ptr.1 in let κ : Lft = κs.0 in let q : Share = qs.0 in
    let z : VaultId = t.vault_id in let p : Ptr = t.at in let x : T.Denot = h.value in let α : Lft = age z.room in let δ : ℕ = z.room.name in let D : RattleType = VaultData R in let F : T.Denot → Hr.Denot = grip_with_value h in let In : Fml = held R z.room in let Asked : Type 0 = h.vault_id ≡ z in let Acc : ℕ → Fml = λ j. pledge R z.room views rights z.table z.desk j (writing h.id h.view) in
    let Mark : Fml = part_at (GripData R) full_share (tt, tt) hb ho in let Kept : Fml = fsep Mark (fex ℕ Acc) in let Rest : SProp 𝓤 = sem 𝓛 Kept in let others : Fml = fsep (flft κs.1.0 qs.1.0) ftrue in
    let y : (walk_of 𝓛 En hs c).Ghost = ((κs, qs, bounds, a, (vptr hb ho ∷ [], (vptr b o ∷ [], tt))), gh) in let Post : Val → SProp 𝓤 = (walk_of 𝓛 En hs c).post y in
    qed 𝓛 (((‵ (flft κ q) ⊛ ‵ others) ⊛ ‵ (owns (types_at En.signature.params κs) a y.0.4)) ∷ raw (fact 𝓤 _) ∷ raw (fact 𝓤 Asked) ∷ []) ∵
    keep ! (2 ∷ 0 ∷ []) $ heard ! Asked (λ asked.
    let cut : ent 𝓤 (sem 𝓛 (part_at Hr full_share h hb ho)) (sep 𝓤 (A.obs δ (R.coded.code x)) (sep 𝓤 (A.bor α In) Rest)) =
    qed 𝓛 (‵ (part_at Hr full_share h hb ho) ∷ []) ∵ use1 𝓛 (‵ Mark ⊛ ‵ (grip_owns R h.vault_id h.id h.view x)) (part_out 𝓛 (grip.the_type R) full_share h hb ho) $ split ! $
    rewrite ! 1 (λ (i : VaultId). ‵ (grip_owns R i h.id h.view x)) asked refl $ move ! (1 ∷ []) $ fpick ! (λ j. fsplit ! $ fpack ! ℕ Acc j $ move ! (2 ∷ 0 ∷ []) $ fjoin ! $ move ! (1 ∷ []) $ fsplit ! $ done !) in
    let back : (w : T.Denot) → ent 𝓤 (sep 𝓤 (A.obs δ (R.coded.code w)) (sep 𝓤 (A.bor α In) Rest)) (sem 𝓛 (part_at Hr full_share (F w) hb ho)) = λ w.
    qed 𝓛 (‵ (fobs δ (R.coded.code w)) ∷ ‵ (fbor α In) ∷ ‵ Kept ∷ []) ∵ fjoin ! $ move ! (1 ∷ []) $ fsplit ! $ move ! (1 ∷ []) $ fpick ! (λ j. move ! (0 ∷ 2 ∷ []) $ fjoin ! $ fpack ! ℕ (grip_with R z h.id h.view w) j $
    rewrite ! 0 (λ (i : VaultId). ‵ (grip_owns R i h.id h.view w)) (sym asked) refl $ move ! (1 ∷ 0 ∷ []) $ by ! (part_in 𝓛 (grip.the_type R) full_share (F w) hb ho)) in
    split ! $ split ! $ move ! (2 ∷ []) $ fsplit3 ! $ fsplit3 ! $ move ! (3 ∷ []) $ fsplit ! $ keep ! (1 ∷ 6 ∷ 3 ∷ 4 ∷ 7 ∷ []) $
    enter ! 𝓣.C 𝓣.Λ fn (vptr hb ho ∷ vptr b o ∷ []) Post $ alloc_all ! (λ l. pass_all ! refl ((tt, tt), ((tt, tt), tt)) $ let Ev = env fn.locals l in
    use1 𝓛 (‵ (hidden_shr D κ (p, tt) b o) ⊛ ‵ (fhide (vault.the_lent R t (block_ptr b o) κ))) (lent_out 𝓛 (vault.struct R) (vault.the_codes T.Denot R.coded) (vault.the_heap R) (vault.the_lent R) κ t b o) $
    split ! $ move ! (1 ∷ []) $ unhide ! $ fsplit ! $ move ! (1 ∷ []) $ drop ! $ fsplit ! $ move ! (1 ∷ []) $ fpick ! (λ at. drop ! $ move ! (1 ∷ 2 ∷ []) $
    looks ! tt D (vault_opens R 𝓛) (p, tt) b o (λ q' vs. move ! (1 ∷ []) $ peeks ! D (Is D) (shows 𝓛 D) (p, tt) vs (λ is-so. let ev : vs ≡ strip_of (place z.room) ∷ [] = vault_told R p vs is-so ∙ ap (λ (r : Ptr). strip_of r ∷ []) at.0 in
    rewrite ! 1 (λ (ws : List Val). ‵ (cell_at q' D.mir ws b o)) ev refl $ first ! $ blocks ! $
    sets_last ! (addr ! (through ! refl (fld ! refl (hop ! (look_in ! 1 (sub ! 0 refl (whole !))) (stop !))))) refl (tt, tt) $ exec ! 𝓣.C 𝓣.Λ Ev (tail fn.body) (at_ret Ev Post) $
    sets ! (of_opd ! (get ! refl)) refl (tt, tt) $ rewrite ! 1 (λ (ws : List Val). ‵ (cell_at q' D.mir ws b o)) (sym ev) refl $ move ! (1 ∷ 0 ∷ 2 ∷ []) $ shuts ! tt D q' (p, tt) vs b o $
    move ! (2 ∷ 3 ∷ 4 ∷ 0 ∷ []) $ group ! 4 $
    use1 𝓛 (later (some (λ (γ' : ℕ). ‵ (fobs γ' (R.coded.code x)) ⊛ ‵ (fbor κ (Body (mem R) z.room.block z.room.offset γ')) ⊛ ‵ (flft κ q) ⊛ ‵ (follows Hr R γ γ' F))))
    (hands_out 𝓛 (mem Hr) (mem R) F (λ v u same. ap (λ (s : Hr.Denot). s.value) same) hb ho z.room.block z.room.offset γ α δ κ Rest back q h x cut) $ await ! tt $ pick ! (λ γ'. split3 ! $
    let val : Val = vptr z.room.block z.room.offset in feq_i ! (List Val) (val ∷ []) (val ∷ []) refl $ fjoin3 ! $ move ! (1 ∷ []) $ split ! $ move ! (0 ∷ 4 ∷ []) $ join ! $
    use0 𝓛 (raw (fact 𝓤 (x ≡ x))) (fact_i 𝓤 (x ≡ x) (emp 𝓤) refl) $ move ! (2 ∷ 0 ∷ []) $ join ! $ nothing ! $ nothing ! $ fjoin ! $ nothing ! $ fjoin ! $
    returns ! (look_at ! 0 refl) $ free_all ! refl $ keep ! (2 ∷ 0 ∷ 3 ∷ 1 ∷ []) $ by ! (leaves 𝓛 En hs c y val (record { ref_ptr = (z.room.block, z.room.offset); ghost_name = γ'; now = x }) (tt, (tt, tt)) (tt, (tt, tt))))))))))
