-- The number is one more than that of the count that is given.
use Rattle.atomic_table.proofs.Names.{◌≡◌, ℕ, [], ◌∷◌, refl, named, Val, vunit, vptr, vstruct, vcons, vnil, SProp, emp, Fml, ftrue, flft, ‵, raw, ◌⊛◌, ◌$◌, ◌∵◌, !, qed, by, keep, split, join, fjoin, use0, no_more, and_then, unit_lit, returns, enter, alloc_all, pass_all, free_all, look_at, sets, agg, tables, yes, RattleType, owns, types_at, plain, nothing, Stays, stay_dropped, walk_of, Goes-dropped, fact, fact_i, RefOf, shr_vals, shr_Tells}
use denote.Shadow.{pure_i}
use Rattle.atomic_table.proofs.Walks.{proved, leaves}
use Rattle.std.specs.Prelude.{suc}
use Rattle.access_core.specs.contracts.count.Count as made
use Rattle.access_core.specs.contracts.count.Count.and_one.{ended, clauses}
use Rattle.access_core.specs.contracts.count.Count.and_one.Key.{name as #self}
use Rattle.access_core.proofs.count.Count.and_one.Statement.{statement}
use Rattle.access_core.proofs.count.Count.and_one.Code as code

pub and_one_spec : {M : Type 1} → statement M
and_one_spec 𝓤 𝓛 𝓜 𝓡 wired =
    let H = 𝓛.H in let 𝓣 = tables 𝓤 H 𝓜 𝓡 𝓡.env in let c = clauses 𝓛 𝓜.mem 𝓡.returns in
    let closed = code.unfolded 𝓤 H 𝓜 𝓡 wired in
    let Row : RattleType = made.the_row in let Id : RattleType = made.the_row in let u : Val = vstruct (vcons vunit vnil) in
    let at = RefOf (0 ∷ []) tt (plain (λ _. Row)) (λ _. tt) in let hs : Stays ended.signature.params ended.kept = (stay_dropped at yes, tt) in
    proved 𝓛 ended hs c 𝓜 𝓡 (Goes-dropped 𝓛 1 at yes (λ κs x f. refl), tt) #self code.function closed
    (λ κs. (shr_vals, tt)) (λ κs. (shr_Tells (named 0) κs.0 Row, tt)) (λ κs qs bounds a gh are.
    let b : ℕ = a.0.ref_ptr.0 in let o : ℕ = a.0.ref_ptr.1 in let others : Fml = ftrue in
    let i : Id.Denot = record { seal = tt; number = suc a.0.now.number } in
    let y : (walk_of 𝓛 ended hs c).Ghost = ((κs, qs, bounds, a, (vptr b o ∷ [], tt)), gh) in let Post : Val → SProp 𝓤 = (walk_of 𝓛 ended hs c).post y in
    qed 𝓛 (((‵ (flft κs.0 qs.0) ⊛ ‵ others) ⊛ ‵ (owns (types_at ended.signature.params κs) a y.0.4)) ∷ raw ((c κs a).requires gh) ∷ []) ∵
    split ! $ split ! $ keep ! (0 ∷ 1 ∷ []) $ join ! $
    enter ! 𝓣.C 𝓣.Λ code.function (vptr b o ∷ []) Post $ alloc_all ! (λ l. pass_all ! refl ((tt, tt), tt) $
    sets ! (agg ! (and_then ! (unit_lit !) (no_more !))) refl (tt, (tt, tt)) $
    returns ! (look_at ! 0 refl) $ free_all ! refl $
    use0 𝓛 (raw (fact 𝓤 (i.number ≡ suc a.0.now.number))) (fact_i 𝓤 (i.number ≡ suc a.0.now.number) (emp 𝓤) refl) $
    pure_i ! (Id.own_val i (u ∷ [])) ((λ vss. (tt, (tt, tt))), tt) (((vunit ∷ [], tt), (refl, (refl, tt))), tt) $
    nothing ! $ nothing ! $ fjoin ! $
    keep ! (3 ∷ 0 ∷ 1 ∷ 2 ∷ []) $ by ! (leaves 𝓛 ended hs c y u i (tt, tt) (tt, tt))))
