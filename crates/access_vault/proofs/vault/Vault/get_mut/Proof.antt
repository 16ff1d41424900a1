-- `get_mut` begins another age, and lends the value, which the vault follows.
use Rattle.atomic_table.proofs.Names.{◌≡◌, ℕ, List, [], ◌∷◌, refl, sym, ap, ◌∙◌, a_type, named, Val, vptr, inst_fn, SProp, Lft, Share, Fml, ftrue, fsep, flft, fbor, fobs, sem, ‵, raw, ◌⊛◌, some, later, at_ret, ◌$◌, ◌∵◌, !, qed, by, move, keep, split, split3, join, fsplit, fsplit3, fjoin, fjoin3, pick, use1, await, rewrite, feq_i, group, stop, fld, addr, of_opd, first, blocks, exec, returns, enter, alloc_all, pass_all, free_all, look_at, get, through, sets, sets_last, env, sub, whole, look_in, tables, no, RattleType, owns, types_at, plain, Ptr, nothing, heard, peeks, param, layouts, Stays, stay_dropped, walk_of, Goes-dropped, Goes-spent_ref, fact, mem, RefMutOf, mut_vals, mut_Tells, cell_at, full_share, Is, shows, Body, follows, opens, closes}
use types.Run.{hop}
use base.Fml.{fshr_bor}
use Rattle.atomic_table.proofs.Walks.{proved, leaves}
use Rattle.core.proofs.atomic.Steps.{tail}
use Rattle.lock_place.specs.Held.{RoomId, age, place}
use Rattle.access_vault.specs.Kept.{VaultId}
use Rattle.access_vault.specs.contracts.vault.Vault as vault
use Rattle.access_vault.specs.contracts.vault.Renewal as renewal
use Rattle.access_vault.proofs.Fields.{strip_of, token_val, VaultData, vault_told, renewal_told}
use Rattle.access_vault.proofs.Relends.{F, F_inj, Mark, Full, cuts, backs, Is as Whole_is, fills}
use Rattle.atomic_table.proofs.Through.{hands_out}
use Rattle.access_vault.specs.contracts.vault.Vault.get_mut.{ended, clauses}
use Rattle.access_vault.specs.contracts.vault.Vault.get_mut.Key.{name as #self}
use Rattle.access_vault.proofs.vault.Vault.get_mut.Statement.{statement}
use Rattle.access_vault.proofs.vault.Vault.get_mut.Code as code

pub get_mut_spec : {M : Type 1} → statement M
get_mut_spec 𝓤 𝓛 𝓜 𝓡 wired T L =
    let H = 𝓛.H in let A = 𝓛.A in let 𝓣 = tables 𝓤 H 𝓜 𝓡 𝓡.env in let R : RattleType = param 0 T in let En = ended T in let c = clauses T 𝓛 𝓜.mem 𝓡.returns in
    let inst = layouts (a_type ∷ []) (T, tt) in let fn = inst_fn inst code.function in let closed = code.unfolded 𝓤 H 𝓜 𝓡 wired (T, tt) in
    let Row : RattleType = vault.the_row R in let Nx : RattleType = renewal.the_row R in let own = plain (λ _. Nx) in let me = RefMutOf (0 ∷ []) tt (plain (λ _. Row)) (λ _. tt) in let hs : Stays En.signature.params En.kept = (stay_dropped me no, (stay_dropped own no, tt)) in
    proved 𝓛 En hs c 𝓜 𝓡 (Goes-spent_ref 𝓛 2 (0 ∷ []) tt (plain (λ _. Row)), (Goes-dropped 𝓛 2 own no (λ κs x f. refl), tt)) (#self inst) fn closed
    (λ κs. (mut_vals, ((λ _. token_val ∷ []), tt))) (λ κs. (mut_Tells (named 0) κs.0 Row, ((λ x vs so. renewal_told R vs so.0), tt))) (λ κs qs bounds a gh are.
    let t : Row.Denot = a.0.now in let b : ℕ = a.0.ref_ptr.0 in let o : ℕ = a.0.ref_ptr.1 in let γ : ℕ = a.0.ghost_name in let κ : Lft = κs.0 in let q : Share = qs.0 in
    let id : VaultId = a.1.0.vault_id in let i : RoomId = id.room in let p : Ptr = t.at in let D : RattleType = VaultData R in let others : Fml = fsep (flft κs.1.0 qs.1.0) ftrue in let Asked : Type 0 = (id.table ≡ t.vault_id.table) × (id.turn ≡ t.vault_id.turn) × (p ≡ place i) in
    let y : (walk_of 𝓛 En hs c).Ghost = ((κs, qs, bounds, a, (vptr b o ∷ [], (token_val ∷ [], tt))), gh) in let Post : Val → SProp 𝓤 = (walk_of 𝓛 En hs c).post y in
    qed 𝓛 (((‵ (flft κ q) ⊛ ‵ others) ⊛ ‵ (owns (types_at En.signature.params κs) a y.0.4)) ∷ raw (fact 𝓤 _) ∷ raw (fact 𝓤 Asked) ∷ []) ∵
    keep ! (2 ∷ 0 ∷ []) $ heard ! Asked (λ asked. let tables : id.table ≡ t.vault_id.table = asked.0 in let lies : p ≡ place i = asked.2 in
    split ! $ split ! $ move ! (2 ∷ []) $ fsplit3 ! $ fsplit3 ! $ move ! (3 ∷ []) $ fsplit ! $ keep ! (3 ∷ 4 ∷ 6 ∷ 1 ∷ 7 ∷ []) $
    -- obs, bor, κ, renewal, others
    enter ! 𝓣.C 𝓣.Λ fn (vptr b o ∷ token_val ∷ []) Post $ alloc_all ! (λ l. pass_all ! refl ((tt, tt), ((tt, (tt, tt)), tt)) $ let Ev = env fn.locals l in
    opens ! tt Row b o (λ ts. move ! (1 ∷ []) $ fsplit ! $ move ! (0 ∷ 2 ∷ []) $
    -- data, cell, vault, obor, obs, auth, renewal, others
    peeks ! D (Is D) (shows 𝓛 D) (p, tt) ts (λ is-so. let ev : ts ≡ strip_of (place i) ∷ [] = vault_told R p ts is-so ∙ ap (λ (r : Ptr). strip_of r ∷ []) lies in
    rewrite ! 1 (λ (ws : List Val). ‵ (cell_at full_share D.mir ws b o)) ev refl $ first ! $ blocks ! $
    sets_last ! (addr ! (through ! refl (fld ! refl (hop ! (look_in ! 1 (sub ! 0 refl (whole !))) (stop !))))) refl (tt, tt) $ exec ! 𝓣.C 𝓣.Λ Ev (tail fn.body) (at_ret Ev Post) $
    sets ! (of_opd ! (get ! refl)) refl (tt, tt) $ rewrite ! 1 (λ (ws : List Val). ‵ (cell_at full_share D.mir ws b o)) (sym ev) refl $ move ! (0 ∷ 2 ∷ []) $ fjoin ! $ move ! (1 ∷ 0 ∷ []) $
    closes ! tt Row t ts b o $ group ! 4 $
    use1 𝓛 (later (some (λ (x : T.Denot). ‵ (fshr_bor κ (λ r. flft (age i) r)) ⊛ ‵ (fobs γ (Row.coded.code (F R t id tables x))) ⊛ ‵ (fbor κ (Whole_is R t id tables 𝓛 b o γ κ)) ⊛ ‵ (flft κ q)))) (fills 𝓛 R t id tables lies b o γ κ q) $ await ! tt $ pick ! (λ x.
    let G : T.Denot → Row.Denot = F R t id tables in
    use1 𝓛 (later (some (λ (γ' : ℕ). ‵ (fobs γ' (R.coded.code x)) ⊛ ‵ (fbor κ (Body (mem R) i.block i.offset γ')) ⊛ ‵ (flft κ q) ⊛ ‵ (follows Row R γ γ' G))))
    (hands_out 𝓛 (Full R t id tables) (mem R) G (F_inj R t id tables) b o i.block i.offset γ (age i) i.name κ (sem 𝓛 (Mark R t id tables b o)) (backs R t id tables 𝓛 b o) q (G x) x (cuts R t id tables 𝓛 b o x)) $ await ! tt $ pick ! (λ γ'. split3 ! $
    let val : Val = vptr i.block i.offset in feq_i ! (List Val) (val ∷ []) (val ∷ []) refl $ fjoin3 ! $ move ! (1 ∷ []) $ split ! $ move ! (0 ∷ 3 ∷ []) $ join ! $ nothing ! $ nothing ! $ fjoin ! $ nothing ! $ fjoin ! $
    -- rests, tokens, follows, the value
    returns ! (look_at ! 0 refl) $ free_all ! refl $ keep ! (1 ∷ 0 ∷ 3 ∷ 2 ∷ []) $ by ! (leaves 𝓛 En hs c y val (record { ref_ptr = (i.block, i.offset); ghost_name = γ'; now = x }) (tt, (tt, tt)) (tt, (tt, tt))))))))))
