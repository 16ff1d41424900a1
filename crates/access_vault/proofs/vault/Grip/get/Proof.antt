-- `get` shows the value for as long as the room and the right are borrowed, and shares it if nobody has yet.
use Rattle.atomic_table.proofs.Names.{◌≡◌, ℕ, List, [], ◌∷◌, ◌++◌, refl, sym, ap, ◌∙◌, a_type, named, Val, vptr, inst_fn, SProp, emp, apply∗, wand, Lft, Share, Fml, ftrue, flft, sem, ‵, raw, ◌⊛◌, some, later, at_ret, ◌$◌, ◌∵◌, !, qed, by, move, keep, drop, split, split3, join, fsplit, fsplit3, fjoin, pick, use0, use1, use2, use3, await, rewrite, feq_i, group, stop, fld, addr, of_opd, first, blocks, exec, returns, enter, alloc_all, pass_all, free_all, look_at, get, through, sets, sets_last, env, sub, whole, look_in, yes, RattleType, owns, types_at, plain, Ptr, block_ptr, nothing, heard, peeks, looks, shuts, param, layouts, Stays, stay_dropped, walk_of, Goes-dropped, fact, fact_i, RefOf, shr_vals, shr_Tells, unhide, lent_out, hidden_shr, cell_at, Is, shows, ◌⊑◌}
use types.Kit.{fpick}
use types.Run.{hop}
use base.Fml.{fhide, Incl-refl}
use contract.BorrowLft.{meet_⊑_left, meet_⊑_right, ⊑_meet}
use types.Frac.{lent_meet}
use denote.Param.Laws.{param_laws}
use Rattle.atomic_table.proofs.Walks.{leaves}
use Rattle.core.proofs.atomic.Steps.{tail}
use Rattle.core.specs.contracts.marker.PhantomData as marker
use Rattle.lock_place.specs.Held.{RoomId, age, place, seen_at}
use Rattle.access_vault.specs.Kept.{VaultId}
use Rattle.access_vault.specs.contracts.vault.Vault as vault
use Rattle.access_vault.specs.contracts.vault.Grip as grip
use Rattle.access_vault.proofs.Fields.{strip_of, VaultData, vault_told, vault_opens, GripData}
use Rattle.lock_place.specs.Held.{either_form, hold_shares}
use Rattle.lock_place.proofs.Ages.{fills, reaches}
use ghost.Rules.{Toks, span}
use base.Fml.{Incl, Incl-trans, ftok, Key, Mask}
use base.Share
use base.Mask.{every, just, less, take}
use base.Before.{before}
use types.Na.{na_inv_acc, before_dup}
use types.Tokens.{shr_bor_dup}
use contract.Shared.{Lends-one}
use contract.Running.{tables_of, bare_tables}
use contract.Beside.{Carries}
use contract.Named.{bare_unfolds}
use prog.Wp.{Tables, WpFn}
use sound.WpLaws.{WpFn-mono}
use denote.Triple.Table.{entered}
use denote.Triple.Clauses.{closing}
use denote.Triple.Spec.{triple_of}
use denote.Triple.Handed.{holding, hands}
use denote.Triple.Walked.{walk_Meets, walked}
use mathlib.Core.Path.{subst}
use Rattle.access_vault.specs.contracts.vault.Grip.get.{ended, clauses}
use Rattle.access_vault.specs.contracts.vault.Grip.get.Key.{name as #self}
use Rattle.access_vault.proofs.vault.Grip.get.Statement.{statement}
use Rattle.access_vault.proofs.vault.Grip.get.Code as code
use Rattle.access_vault.proofs.vault.Grip.get.Code.{code}

pub get_spec : {M : Type 1} → statement M
unfolding tables_of code
get_spec 𝓤 𝓛 𝓜 𝓡 wired T L =
    let H = 𝓛.H in let A = 𝓛.A in let R : RattleType = param 0 T in let En = ended T in let c₀ = clauses T 𝓛 𝓜.mem 𝓡.returns in let c = holding 𝓤 En (A.tok every) c₀ in
    let 𝓒 : Carries 𝓤 𝓛.H 𝓜 (A.tok every) = subst (Carries 𝓤 𝓛.H 𝓜) 𝓛.turn_is 𝓡.carries in let 𝓣 : Tables 𝓤 𝓛.H = tables_of 𝓤 𝓛.H 𝓒.inner (bare_tables 𝓤 𝓛.H 𝓒.inner 𝓡.allowed 𝓡.how 𝓡.env) in
    let inst = layouts (a_type ∷ []) (T, tt) in let fn = inst_fn inst code.function in let key = #self inst in let W = WpFn 𝓤 H 𝓣.C 𝓣.Λ fn in
    let Row : RattleType = vault.the_row R in let Hr : RattleType = grip.the_row R in let LR = param_laws 0 T L in
    let me = RefOf (0 ∷ []) tt (plain (λ _. Hr)) (λ _. tt) in let at = RefOf (0 ∷ []) tt (plain (λ _. Row)) (λ _. tt) in let hs : Stays En.signature.params En.kept = (stay_dropped me yes, (stay_dropped at yes, tt)) in
    hands 𝓛 En (A.tok every) c₀ 𝓜 𝓒 𝓡 (𝓡.env key) (entered 𝓤 𝓛.H (triple_of 𝓛 En.signature (closing 𝓛 En c)) 𝓣.C 𝓣.Λ key fn (bare_unfolds 𝓤 𝓛.H 𝓒.inner 𝓡.allowed 𝓡.how 𝓡.env key fn (wired.0.0 key refl))
    (walk_Meets 𝓛 En hs (Goes-dropped 𝓛 2 me yes (λ κs x f. refl), (Goes-dropped 𝓛 2 at yes (λ κs x f. refl), tt)) c W (WpFn-mono 𝓤 H 𝓛.laws 𝓣 fn) (walked 𝓛 En hs c W
    (λ κs. (shr_vals, (shr_vals, tt))) (λ κs. (shr_Tells (named 0) κs.0 Hr, (shr_Tells (named 0) κs.0 Row, tt))) (λ κs qs bounds a gh are.
    let h : Hr.Denot = a.0.now in let hb : ℕ = a.0.ref_ptr.0 in let ho : ℕ = a.0.ref_ptr.1 in let t : Row.Denot = a.1.0.now in let b : ℕ = a.1.0.ref_ptr.0 in let o : ℕ = a.1.0.ref_ptr.1 in let κ : Lft = κs.0 in let q : Share = qs.0 in let τ : Lft = κs.1.0 in let s : Share = qs.1.0 in
    let i₀ : VaultId = t.vault_id in let z : RoomId = i₀.room in let p : Ptr = t.at in let x : T.Denot = h.value in let α : Lft = age z in let D : RattleType = VaultData R in let V : Lft → Fml = seen_at R z x in let I : Lft → Fml = either_form R z x in let Asked : Type 0 = h.vault_id ≡ i₀ in let k : Key = (z.block, z.offset) in let rest : Mask = less every k in
    let y : (walk_of 𝓛 En hs c).Ghost = ((κs, qs, bounds, a, (vptr hb ho ∷ [], (vptr b o ∷ [], tt))), gh) in let Post : Val → SProp 𝓤 = (walk_of 𝓛 En hs c).post y in
    qed 𝓛 (((‵ (flft κ q) ⊛ ‵ (flft τ s) ⊛ ‵ ftrue) ⊛ ‵ (owns (types_at En.signature.params κs) a y.0.4)) ∷ ‵ (ftok every) ∷ raw (fact 𝓤 (τ ⊑ T.lives)) ∷ raw (fact 𝓤 Asked) ∷ []) ∵
    move ! (2 ∷ 3 ∷ []) $ heard ! (τ ⊑ T.lives) (λ le. heard ! Asked (λ asked. split ! $ split3 ! $ move ! (3 ∷ []) $ fsplit3 ! $ fsplit ! $ move ! (2 ∷ []) $ fsplit ! $ keep ! (1 ∷ 3 ∷ 5 ∷ 6 ∷ 8 ∷ []) $
    enter ! 𝓣.C 𝓣.Λ fn (vptr hb ho ∷ vptr b o ∷ []) Post $ alloc_all ! (λ l. pass_all ! refl ((tt, tt), ((tt, tt), tt)) $ let Ev = env fn.locals l in
    move ! (1 ∷ []) $
    use1 𝓛 (‵ (hidden_shr (GripData R) κ (tt, tt) hb ho) ⊛ ‵ (fhide (grip.the_lent R h (block_ptr hb ho) κ))) (lent_out 𝓛 (grip.struct R) (grip.the_codes T.Denot R.coded (marker.the_row R).coded) (grip.the_heap R) (grip.the_lent R) κ h hb ho) $
    split ! $ drop ! $ unhide ! $ rewrite ! 0 (λ (i : VaultId). ‵ (hold_shares R i.room x κ)) asked refl $ move ! (1 ∷ []) $
    use1 𝓛 (‵ (hidden_shr D κ (p, tt) b o) ⊛ ‵ (fhide (vault.the_lent R t (block_ptr b o) κ))) (lent_out 𝓛 (vault.struct R) (vault.the_codes T.Denot R.coded) (vault.the_heap R) (vault.the_lent R) κ t b o) $
    split ! $ move ! (1 ∷ []) $ unhide ! $ fsplit ! $ move ! (1 ∷ []) $ drop ! $ fsplit ! $ move ! (1 ∷ []) $ fpick ! (λ at. drop ! $ move ! (2 ∷ []) $ fpick ! (λ κ₀. fsplit ! $ let ν : Lft = κ₀ ++ α in
    use1 𝓛 (‵ (before κ κ₀) ⊛ ‵ (before κ κ₀)) (before_dup 𝓛 κ κ₀) $ split ! $ move ! (3 ∷ []) $ shr_bor_dup ! $
    move ! (6 ∷ []) $ use1 𝓛 (‵ (flft κ (Share.left q)) ⊛ ‵ (flft κ (Share.right q))) (𝓛.lfts.lft_split κ q) $ split ! $ move ! (4 ∷ 0 ∷ []) $
    use2 𝓛 (later (some (λ (r : Share). ‵ (flft κ₀ r) ⊛ raw (wand 𝓤 (A.lft κ₀ r) (H.⇛ (A.lft κ (Share.left q))))))) (Lends-one 𝓛 𝓜 𝓡 κ κ₀ (Share.left q)) $ await ! tt $ pick ! (λ r. split ! $ move ! (3 ∷ 2 ∷ []) $
    use2 𝓛 (later (some (λ (w : Share). ‵ (flft (α ++ κ) w) ⊛ raw (wand 𝓤 (A.lft (α ++ κ) w) (H.⇛ (A.lft κ (Share.right q))))))) (lent_meet 𝓛 κ α κ (Share.right q) (Incl-refl κ)) $ await ! tt $ pick ! (λ w. split ! $
    move ! (9 ∷ []) $ use1 𝓛 (‵ (ftok (just k)) ⊛ ‵ (ftok rest)) (𝓛.invs.tok_cut every (just k) rest (take every k refl)) $ split ! $ move ! (8 ∷ 0 ∷ []) $
    use2 𝓛 (later (‵ (I κ₀) ⊛ raw (wand 𝓤 (sem 𝓛 (I κ₀)) (H.⇛ (A.tok (just k)))))) (na_inv_acc 𝓛 k (I κ₀)) $ await ! tt $ split ! $ move ! (5 ∷ 3 ∷ 10 ∷ []) $ group ! 3 $ move ! (1 ∷ 0 ∷ []) $
    let ts : Toks = (κ₀, r) ∷ (α ++ κ, w) ∷ (τ, s) ∷ [] in let in_ν : Incl (span ts) ν = ⊑_meet (span ts) κ₀ α (meet_⊑_left κ₀ ((α ++ κ) ++ τ)) (Incl-trans (meet_⊑_right κ₀ ((α ++ κ) ++ τ)) (Incl-trans (meet_⊑_left (α ++ κ) τ) (meet_⊑_left α κ))) in
    let in_l : Incl (span ts) T.lives = Incl-trans (meet_⊑_right κ₀ ((α ++ κ) ++ τ)) (Incl-trans (meet_⊑_right (α ++ κ) τ) le) in
    use2 𝓛 (later (‵ (V ν) ⊛ ‵ (I κ₀) ⊛ (‵ (flft κ₀ r) ⊛ ‵ (flft (α ++ κ) w) ⊛ ‵ (flft τ s)))) (fills 𝓛 R z x LR.shr_laws R.lives (LR.shares 𝓛) κ₀ ts in_ν in_l) $ await ! tt $ split3 ! $ move ! (1 ∷ 3 ∷ []) $
    use2 𝓛 (later (‵ (ftok (just k)))) (apply∗ 𝓤 (sem 𝓛 (I κ₀)) (H.⇛ (A.tok (just k)))) $ await ! tt $ move ! (0 ∷ 3 ∷ []) $ use2 𝓛 (‵ (ftok every)) (𝓛.invs.tok_glue every (just k) rest (take every k refl)) $
    move ! (2 ∷ []) $ split3 ! $ move ! (0 ∷ 6 ∷ []) $ use2 𝓛 (later (‵ (flft κ (Share.left q)))) (apply∗ 𝓤 (A.lft κ₀ r) (H.⇛ (A.lft κ (Share.left q)))) $ await ! tt $ move ! (1 ∷ 5 ∷ []) $
    use2 𝓛 (later (‵ (flft κ (Share.right q)))) (apply∗ 𝓤 (A.lft (α ++ κ) w) (H.⇛ (A.lft κ (Share.right q)))) $ await ! tt $ move ! (1 ∷ 0 ∷ []) $ use2 𝓛 (‵ (flft κ q)) (𝓛.lfts.lft_join κ q) $ move ! (5 ∷ 4 ∷ 3 ∷ []) $
    use3 𝓛 (‵ (hidden_shr R κ x z.block z.offset)) (reaches 𝓛 R z x LR.shr_laws R.lives (LR.shares 𝓛) κ₀ κ) $ move ! (4 ∷ 1 ∷ []) $
    looks ! tt D (vault_opens R 𝓛) (p, tt) b o (λ q' vs. move ! (1 ∷ []) $ peeks ! D (Is D) (shows 𝓛 D) (p, tt) vs (λ is-so. let ev : vs ≡ strip_of (place z) ∷ [] = vault_told R p vs is-so ∙ ap (λ (r : Ptr). strip_of r ∷ []) at.0 in
    rewrite ! 1 (λ (ws : List Val). ‵ (cell_at q' D.mir ws b o)) ev refl $ first ! $ blocks ! $
    sets_last ! (addr ! (through ! refl (fld ! refl (hop ! (look_in ! 1 (sub ! 0 refl (whole !))) (stop !))))) refl (tt, tt) $ exec ! 𝓣.C 𝓣.Λ Ev (tail fn.body) (at_ret Ev Post) $
    sets ! (of_opd ! (get ! refl)) refl (tt, tt) $ rewrite ! 1 (λ (ws : List Val). ‵ (cell_at q' D.mir ws b o)) (sym ev) refl $ move ! (1 ∷ 0 ∷ 2 ∷ []) $ shuts ! tt D q' (p, tt) vs b o $
    nothing ! $ move ! (4 ∷ 0 ∷ []) $ join ! $ move ! (1 ∷ 0 ∷ []) $ join ! $ move ! (2 ∷ []) $ feq_i ! (List Val) (vptr z.block z.offset ∷ []) (vptr z.block z.offset ∷ []) refl $ fjoin ! $
    use0 𝓛 (raw (fact 𝓤 (x ≡ x))) (fact_i 𝓤 (x ≡ x) (emp 𝓤) refl) $ move ! (4 ∷ 0 ∷ []) $ join ! $ nothing ! $ nothing ! $ fjoin ! $ nothing ! $ fjoin ! $
    returns ! (look_at ! 0 refl) $ free_all ! refl $ keep ! (3 ∷ 0 ∷ 2 ∷ 1 ∷ []) $ by ! (leaves 𝓛 En hs c y (vptr z.block z.offset) (record { ref_ptr = (z.block, z.offset); now = x }) (tt, (tt, tt)) (tt, (tt, tt))))))))))))))))
