-- The marks of another age are made.
use Rattle.atomic_table.proofs.Names.{◌≡◌, ℕ, [], ◌∷◌, refl, a_type, named, Val, vptr, inst_fn, SProp, emp, Lft, Fml, ftrue, fsep, flft, ‵, raw, ◌⊛◌, some, later, ◌$◌, ◌∵◌, !, qed, by, move, keep, drop, split, fsplit, fjoin, pick, use0, use1, await, no_more, and_then, returns, enter, alloc_all, pass_all, free_all, look_at, get, sets, agg, tables, yes, RattleType, owns, types_at, plain, Ptr, block_ptr, nothing, param, layouts, Stays, stay_dropped, walk_of, Goes-dropped, fact, fact_i, RefOf, shr_vals, shr_Tells, unhide, lent_out, hidden_shr}
use types.Kit.{fpick}
use base.Fml.{fhide}
use Rattle.atomic_table.proofs.Walks.{proved, leaves}
use Rattle.lock_place.specs.Held.{place}
use Rattle.access_vault.specs.Kept.{VaultId, renewal_owns}
use Rattle.access_vault.specs.contracts.vault.Vault as vault
use Rattle.access_vault.specs.contracts.vault.Renewal as renewal
use Rattle.access_vault.proofs.Fields.{token_val, VaultData, RenewalData, renewal_made}
use Rattle.access_vault.proofs.Relends.{next_of, marks}
use Rattle.access_vault.specs.contracts.vault.Vault.next_age.{ended, clauses}
use Rattle.access_vault.specs.contracts.vault.Vault.next_age.Key.{name as #self}
use Rattle.access_vault.proofs.vault.Vault.next_age.Statement.{statement}
use Rattle.access_vault.proofs.vault.Vault.next_age.Code as code

pub next_age_spec : {M : Type 1} → statement M
next_age_spec 𝓤 𝓛 𝓜 𝓡 wired T L =
    let H = 𝓛.H in let A = 𝓛.A in let 𝓣 = tables 𝓤 H 𝓜 𝓡 𝓡.env in let R : RattleType = param 0 T in let En = ended T in let c = clauses T 𝓛 𝓜.mem 𝓡.returns in
    let inst = layouts (a_type ∷ []) (T, tt) in let fn = inst_fn inst code.function in let closed = code.unfolded 𝓤 H 𝓜 𝓡 wired (T, tt) in
    let Row : RattleType = vault.the_row R in let Nx : RattleType = renewal.the_row R in
    let at = RefOf (0 ∷ []) tt (plain (λ _. Row)) (λ _. tt) in let hs : Stays En.signature.params En.kept = (stay_dropped at yes, tt) in
    proved 𝓛 En hs c 𝓜 𝓡 (Goes-dropped 𝓛 2 at yes (λ κs x f. refl), tt) (#self inst) fn closed
    (λ κs. (shr_vals, tt)) (λ κs. (shr_Tells (named 0) κs.0 Row, tt)) (λ κs qs bounds a gh are.
    let b : ℕ = a.0.ref_ptr.0 in let o : ℕ = a.0.ref_ptr.1 in let s : Row.Denot = a.0.now in let z : VaultId = s.vault_id in let p : Ptr = s.at in let κ : Lft = κs.0 in let others : Fml = fsep (flft κs.1.0 qs.1.0) ftrue in
    let y : (walk_of 𝓛 En hs c).Ghost = ((κs, qs, bounds, a, (vptr b o ∷ [], tt)), gh) in let Post : Val → SProp 𝓤 = (walk_of 𝓛 En hs c).post y in
    qed 𝓛 (((‵ (flft κ qs.0) ⊛ ‵ others) ⊛ ‵ (owns (types_at En.signature.params κs) a y.0.4)) ∷ raw ((c κs a).requires gh) ∷ []) ∵
    split ! $ move ! (1 ∷ []) $ fsplit ! $ fsplit ! $ keep ! (1 ∷ 3 ∷ []) $
    -- vault, tokens
    enter ! 𝓣.C 𝓣.Λ fn (vptr b o ∷ []) Post $ alloc_all ! (λ l. pass_all ! refl ((tt, tt), tt) $
    use1 𝓛 (‵ (hidden_shr (VaultData R) κ (p, tt) b o) ⊛ ‵ (fhide (vault.the_lent R s (block_ptr b o) κ))) (lent_out 𝓛 (vault.struct R) (vault.the_codes T.Denot R.coded) (vault.the_heap R) (vault.the_lent R) κ s b o) $
    split ! $ drop ! $ unhide ! $ fsplit ! $ fsplit ! $ move ! (1 ∷ []) $ fpick ! (λ at. drop ! $ drop ! $ drop ! $
    use0 𝓛 (later (some (λ (u : (ℕ × ℕ) × (ℕ × ℕ)). ‵ (renewal_owns R (next_of 𝓛 R z.room z.table z.turn u))))) (marks 𝓛 R z.room z.table z.turn) $ await ! tt $ pick ! (λ u. let n : VaultId = next_of 𝓛 R z.room z.table z.turn u in
    let r : Nx.Denot = record { marker = record {}; vault_id = n } in let Told : Type 0 = (z.table ≡ z.table) × (z.turn ≡ z.turn) × (p ≡ place n.room) in
    use0 𝓛 (‵ ((RenewalData R).own_val (tt, tt) (token_val ∷ []))) (renewal_made R 𝓛) $ fjoin ! $
    sets ! (agg ! (no_more !)) refl (tt, tt) $ sets ! (agg ! (and_then ! (get ! refl) (no_more !))) refl (tt, (tt, tt)) $
    use0 𝓛 (raw (fact 𝓤 Told)) (fact_i 𝓤 Told (emp 𝓤) (refl, refl, at.0)) $ nothing ! $ nothing ! $ fjoin ! $
    -- rests, fact, value, tokens
    returns ! (look_at ! 0 refl) $ free_all ! refl $ keep ! (3 ∷ 0 ∷ 2 ∷ 1 ∷ []) $ by ! (leaves 𝓛 En hs c y token_val r (tt, tt) (tt, tt))))))
