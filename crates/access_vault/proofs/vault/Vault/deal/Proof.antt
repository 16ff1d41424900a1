-- The value is lent for a new age, and waits with an empty desk.
use Rattle.atomic_table.proofs.Names.{◌≡◌, ℕ, List, [], ◌∷◌, length, refl, a_type, named, Val, vptr, inst_fn, SProp, emp, Lft, Fml, ftrue, fsep, flft, ‵, raw, ◌⊛◌, some, given, later, ◌$◌, ◌∵◌, !, qed, by, move, keep, drop, split, split3, join, fsplit, fsplit3, fjoin, pick, learn, use0, use1, use2, await, rewrite, stop, fld, of_opd, no_more, and_then, returns, enter, alloc_all, pass_all, free_all, look_at, get, get_in, sets, agg, sub, whole, tables, yes, no, RattleType, owns, types_at, plain, Ptr, block_ptr, InBlock, nothing, heard, param, layouts, Stays, stay_dropped, walk_of, Goes-dropped, fact, fact_i, RefOf, shr_vals, shr_Tells, unhide, lent_out, hidden_shr, Tuple}
use types.Kit.{fpack}
use Rattle.std.proofs.Common.{None}
use base.Fml.{fhide}
use denote.Builtin.{unit}
use Rattle.atomic_table.proofs.Walks.{proved, leaves}
use Rattle.atomic_table.proofs.Fields.{HandData}
use Rattle.atomic_table.specs.Seated.{TableId, strip}
use Rattle.core.specs.contracts.marker.PhantomData as marker
use Rattle.atomic_table.specs.contracts.shared.Shared as table
use Rattle.words_access.specs.contracts.rule.AccessRuleTableRuleViewUnit.TheImpl as imp
use Rattle.access_core.specs.contracts.lists.ListsContent.TheImpl as content
use Rattle.words_access.specs.contracts.rule.AccessRule as rule
use Rattle.words_access.specs.contracts.view.View as view
use Rattle.access_core.specs.contracts.lists.Lists as slot
use Rattle.lock_place.specs.contracts.strip.Strip as strips
use Rattle.lock_place.specs.contracts.room.Room as room
use Rattle.lock_place.specs.Held.{RoomId}
use Rattle.lock_place.proofs.Fields.{strip_of, Ptr-Good, strip_good, strip_told}
use Rattle.lock_place.proofs.Items.{one_item}
use Rattle.lock_place.proofs.Ages.{strip_lies}
use Rattle.access_vault.specs.Kept.{VaultId, known_with, vault_owns}
use Rattle.access_vault.specs.contracts.vault.Vault as vault
use Rattle.access_vault.proofs.Fields.{VaultData, vault_made}
use Rattle.access_vault.proofs.Deals.{vault_of, makes}
use Rattle.access_vault.specs.contracts.vault.Vault.deal.{ended, clauses}
use Rattle.access_vault.specs.contracts.vault.Vault.deal.Key.{name as #self}
use Rattle.access_vault.proofs.vault.Vault.deal.Statement.{statement}
use Rattle.access_vault.proofs.vault.Vault.deal.Code as code

pub deal_spec : {M : Type 1} → statement M
unfolding Rattle.atomic_table.specs.Seated.seal
deal_spec 𝓤 𝓛 𝓜 𝓡 wired T L =
    let H = 𝓛.H in let A = 𝓛.A in let 𝓣 = tables 𝓤 H 𝓜 𝓡 𝓡.env in let R : RattleType = param 0 T in let En = ended T in let c = clauses T 𝓛 𝓜.mem 𝓡.returns in
    let inst = layouts (a_type ∷ []) (T, tt) in let fn = inst_fn inst code.function in let closed = code.unfolded 𝓤 H 𝓜 𝓡 wired (T, tt) in
    let So : RattleType = slot.the_row in let Vw : RattleType = view.the_row in let Ru : RattleType = rule.the_row in
    let Row : RattleType = table.the_row So Vw unit Ru (imp.ghosts slot.the_row content.ghosts imp.no_dict) in let Vt : RattleType = vault.the_row R in let Ss : RattleType = strips.the_row R in let Rm : RattleType = room.the_row unit in
    let at = RefOf (0 ∷ []) tt (plain (λ _. Row)) (λ _. tt) in let by_turn = RefOf (1 ∷ []) tt (plain (λ _. Rm)) (λ _. tt) in
    let hs : Stays En.signature.params En.kept = (stay_dropped (plain (λ _. Ss)) no, (stay_dropped at yes, (stay_dropped by_turn yes, tt))) in
    proved 𝓛 En hs c 𝓜 𝓡 (Goes-dropped 𝓛 3 (plain (λ _. Ss)) no (λ κs x f. refl), (Goes-dropped 𝓛 3 at yes (λ κs x f. refl), (Goes-dropped 𝓛 3 by_turn yes (λ κs x f. refl), tt))) (#self inst) fn closed
    (λ κs. ((λ x. strip_of x.ptr ∷ []), (shr_vals, (shr_vals, tt)))) (λ κs. ((λ x vs so. strip_told R x.ptr vs so.0), (shr_Tells (named 0) κs.0 Row, (shr_Tells (named 1) κs.1.0 Rm, tt)))) (λ κs qs bounds a gh are.
    let p : Ptr = a.0.ptr in let xs : List T.Denot = a.0.items in let t : Row.Denot = a.1.0.now in let b : ℕ = a.1.0.ref_ptr.0 in let o : ℕ = a.1.0.ref_ptr.1 in let κ : Lft = κs.0 in let i : TableId = t.table_id in
    let rb : ℕ = a.1.1.0.ref_ptr.0 in let ro : ℕ = a.1.1.0.ref_ptr.1 in let ρ : RoomId = a.1.1.0.now.room_id in let others : Fml = fsep (flft κs.1.1.0 qs.1.1.0) ftrue in
    let y : (walk_of 𝓛 En hs c).Ghost = ((κs, qs, bounds, a, (strip_of p ∷ [], (vptr b o ∷ [], (vptr rb ro ∷ [], tt)))), gh) in let Post : Val → SProp 𝓤 = (walk_of 𝓛 En hs c).post y in
    qed 𝓛 (((‵ (flft κs.0 qs.0) ⊛ ‵ (flft κs.1.0 qs.1.0) ⊛ ‵ others) ⊛ ‵ (owns (types_at En.signature.params κs) a y.0.4)) ∷ raw (fact 𝓤 _) ∷ raw (fact 𝓤 (length xs ≡ 1)) ∷ []) ∵
    keep ! (2 ∷ 0 ∷ []) $ heard ! (length xs ≡ 1) (λ long. let good = one_item xs long in let x : T.Denot = good.0 in split ! $ split3 ! $ move ! (3 ∷ []) $ fsplit3 ! $
    -- strip, ref, rest, κ0, κ1, others
    fsplit ! $ move ! (2 ∷ []) $ fsplit ! $ keep ! (3 ∷ 1 ∷ 5 ∷ 6 ∷ 7 ∷ []) $
    -- strip, table, κ0, κ1, others
    rewrite ! 0 (λ (ys : List T.Denot). ‵ (strip R p ys)) good.1 refl $
    use1 𝓛 (given (InBlock p) (‵ (strip R p (x ∷ [])))) (strip_lies 𝓛 R p x) $ learn ! (λ fp.
    enter ! 𝓣.C 𝓣.Λ fn (strip_of p ∷ vptr b o ∷ vptr rb ro ∷ []) Post $ alloc_all ! (λ l. pass_all ! refl (strip_good p fp, ((tt, tt), ((tt, tt), tt))) $ move ! (1 ∷ []) $
    use1 𝓛 (‵ (hidden_shr (HandData So Vw unit Ru (imp.ghosts slot.the_row content.ghosts imp.no_dict)) κ (t.words, (t.slots, (tt, tt))) b o) ⊛ ‵ (fhide (table.the_lent So Vw unit Ru (imp.ghosts slot.the_row content.ghosts imp.no_dict) t (block_ptr b o) κ)))
    (lent_out 𝓛 (table.struct So Vw unit Ru (imp.ghosts slot.the_row content.ghosts imp.no_dict)) (table.the_codes So.Denot Vw.Denot unit.Denot Ru.Denot So.coded Vw.coded unit.coded Ru.coded (marker.the_row (Tuple (Ru ∷ Vw ∷ unit ∷ []))).coded) (table.the_heap So Vw unit Ru (imp.ghosts slot.the_row content.ghosts imp.no_dict)) (table.the_lent So Vw unit Ru (imp.ghosts slot.the_row content.ghosts imp.no_dict)) κ t b o) $
    split ! $ drop ! $ unhide ! $ fsplit ! $ drop ! $ fsplit ! $ drop ! $ fpack ! (Ptr × Ptr) (known_with i) (t.words, t.slots) $ move ! (1 ∷ 0 ∷ []) $
    use2 𝓛 (later (some (λ (u : RoomId × (ℕ × ℕ)). ‵ (vault_owns R (vault_of 𝓛 R p i ρ u) p)))) (makes 𝓛 R p i ρ x) $ await ! tt $ pick ! (λ u. let z : VaultId = vault_of 𝓛 R p i ρ u in
    let r : Vt.Denot = record { at = p; vault_id = z; value = None } in let Told : Type 0 = (p ≡ p) × (i ≡ i) × (ρ ≡ ρ) in
    use0 𝓛 (‵ ((VaultData R).own_val (p, tt) (strip_of p ∷ []))) (vault_made R 𝓛 p) $ fjoin ! $
    -- vault, κ0, κ1, others
    sets ! (of_opd ! (get_in ! (fld ! refl (stop !)) (sub ! 0 refl (whole !)))) refl (Ptr-Good p fp) $ sets ! (agg ! (and_then ! (get ! refl) (no_more !))) refl (strip_good p fp) $
    use0 𝓛 (raw (fact 𝓤 Told)) (fact_i 𝓤 Told (emp 𝓤) (refl, refl, refl)) $ move ! (3 ∷ 4 ∷ []) $ join ! $ move ! (3 ∷ 0 ∷ []) $ join ! $ nothing ! $ nothing ! $ fjoin ! $ nothing ! $ fjoin ! $ nothing ! $ fjoin ! $
    returns ! (look_at ! 0 refl) $ free_all ! refl $ keep ! (1 ∷ 0 ∷ 3 ∷ 2 ∷ []) $ by ! (leaves 𝓛 En hs c y (strip_of p) r (tt, (tt, (tt, tt))) (tt, (tt, (tt, tt)))))))))
