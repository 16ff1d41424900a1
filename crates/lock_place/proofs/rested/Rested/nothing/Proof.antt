-- Nothing rests there.
use Rattle.atomic_table.proofs.Names.{◌≡◌, ℕ, [], ◌∷◌, refl, a_type, named, Val, vptr, inst_fn, SProp, emp, Fml, ftrue, fsep, flft, ‵, raw, ◌⊛◌, ◌$◌, ◌∵◌, !, qed, by, keep, split, join, fjoin, use0, no_more, and_then, returns, enter, alloc_all, pass_all, free_all, look_at, get, sets, agg, tables, yes, RattleType, owns, types_at, plain, nothing, param, layouts, Stays, stay_dropped, walk_of, Goes-dropped, fact, fact_i, RefOf, shr_vals, shr_Tells}
use Rattle.atomic_table.proofs.Walks.{proved, leaves}
use Rattle.std.proofs.Common.{None}
use mathlib.Core.Bool.{false}
use Rattle.lock_place.specs.contracts.spare.Spare as spare
use Rattle.lock_place.specs.contracts.rested.Rested as rested
use Rattle.lock_place.proofs.Fields.{token_val, RestedData, rested_made}
use Rattle.lock_place.specs.contracts.rested.Rested.nothing.{ended, clauses}
use Rattle.lock_place.specs.contracts.rested.Rested.nothing.Key.{name as #self}
use Rattle.lock_place.proofs.rested.Rested.nothing.Statement.{statement}
use Rattle.lock_place.proofs.rested.Rested.nothing.Code as code

pub nothing_spec : {M : Type 1} → statement M
nothing_spec 𝓤 𝓛 𝓜 𝓡 wired T L =
    let H = 𝓛.H in let A = 𝓛.A in let 𝓣 = tables 𝓤 H 𝓜 𝓡 𝓡.env in let R : RattleType = param 0 T in let En = ended T in let c = clauses T 𝓛 𝓜.mem 𝓡.returns in
    let inst = layouts (a_type ∷ []) (T, tt) in let fn = inst_fn inst code.function in let closed = code.unfolded 𝓤 H 𝓜 𝓡 wired (T, tt) in
    let Sp : RattleType = spare.the_row R in let Re : RattleType = rested.the_row R in
    let at = RefOf (0 ∷ []) tt (plain (λ _. Sp)) (λ _. tt) in let hs : Stays En.signature.params En.kept = (stay_dropped at yes, tt) in
    proved 𝓛 En hs c 𝓜 𝓡 (Goes-dropped 𝓛 2 at yes (λ κs x f. refl), tt) (#self inst) fn closed
    (λ κs. (shr_vals, tt)) (λ κs. (shr_Tells (named 0) κs.0 Sp, tt)) (λ κs qs bounds a gh are.
    let b : ℕ = a.0.ref_ptr.0 in let o : ℕ = a.0.ref_ptr.1 in let others : Fml = fsep (flft κs.1.0 qs.1.0) ftrue in
    let r : Re.Denot = record { marker = record {}; room_id = a.0.now.room_id; value = None; deed = 0; is_ticket = false } in let Told : Type 0 = (r.value ≡ None) × (false ≡ false) in
    let y : (walk_of 𝓛 En hs c).Ghost = ((κs, qs, bounds, a, (vptr b o ∷ [], tt)), gh) in let Post : Val → SProp 𝓤 = (walk_of 𝓛 En hs c).post y in
    qed 𝓛 (((‵ (flft κs.0 qs.0) ⊛ ‵ others) ⊛ ‵ (owns (types_at En.signature.params κs) a y.0.4)) ∷ raw ((c κs a).requires gh) ∷ []) ∵
    split ! $ split ! $ keep ! (0 ∷ 1 ∷ []) $ join ! $
    enter ! 𝓣.C 𝓣.Λ fn (vptr b o ∷ []) Post $ alloc_all ! (λ l. pass_all ! refl ((tt, tt), tt) $
    nothing ! $ use0 𝓛 (‵ ((RestedData R).own_val (tt, tt) (token_val ∷ []))) (rested_made R 𝓛) $ fjoin ! $
    sets ! (agg ! (no_more !)) refl (tt, tt) $ sets ! (agg ! (and_then ! (get ! refl) (no_more !))) refl (tt, (tt, tt)) $
    use0 𝓛 (raw (fact 𝓤 Told)) (fact_i 𝓤 Told (emp 𝓤) (refl, refl)) $ nothing ! $ nothing ! $ fjoin ! $
    returns ! (look_at ! 0 refl) $ free_all ! refl $ keep ! (3 ∷ 0 ∷ 2 ∷ 1 ∷ []) $ by ! (leaves 𝓛 En hs c y token_val r (tt, tt) (tt, tt))))
