-- The number is none.
use Rattle.atomic_table.proofs.Names.{◌≡◌, [], ◌∷◌, refl, Val, vunit, vstruct, vcons, vnil, SProp, emp, ftrue, ‵, raw, ◌⊛◌, ◌$◌, ◌∵◌, !, qed, by, keep, split, use0, no_more, and_then, unit_lit, returns, enter, alloc_all, pass_all, free_all, look_at, sets, agg, tables, RattleType, owns, types_at, nothing, Stays, walk_of, fact, fact_i}
use denote.Shadow.{pure_i}
use Rattle.atomic_table.proofs.Walks.{proved, leaves}
use Rattle.access_core.specs.contracts.count.Count as made
use Rattle.access_core.specs.contracts.count.Count.none.{ended, clauses}
use Rattle.access_core.specs.contracts.count.Count.none.Key.{name as #self}
use Rattle.access_core.proofs.count.Count.none.Statement.{statement}
use Rattle.access_core.proofs.count.Count.none.Code as code

pub none_spec : {M : Type 1} → statement M
none_spec 𝓤 𝓛 𝓜 𝓡 wired =
    let H = 𝓛.H in let 𝓣 = tables 𝓤 H 𝓜 𝓡 𝓡.env in let c = clauses 𝓛 𝓜.mem 𝓡.returns in
    let closed = code.unfolded 𝓤 H 𝓜 𝓡 wired in
    let Id : RattleType = made.the_row in let u : Val = vstruct (vcons vunit vnil) in let hs : Stays ended.signature.params ended.kept = tt in
    proved 𝓛 ended hs c 𝓜 𝓡 tt #self code.function closed (λ κs. tt) (λ κs. tt) (λ κs qs bounds a gh are.
    let i : Id.Denot = record { seal = tt; number = 0 } in
    let y : (walk_of 𝓛 ended hs c).Ghost = ((κs, qs, bounds, a, tt), gh) in let Post : Val → SProp 𝓤 = (walk_of 𝓛 ended hs c).post y in
    qed 𝓛 ((‵ ftrue ⊛ ‵ (owns (types_at ended.signature.params κs) a y.0.4)) ∷ raw ((c κs a).requires gh) ∷ []) ∵
    split ! $ keep ! (0 ∷ []) $
    enter ! 𝓣.C 𝓣.Λ code.function [] Post $ alloc_all ! (λ l. pass_all ! refl tt $
    sets ! (agg ! (and_then ! (unit_lit !) (no_more !))) refl (tt, (tt, tt)) $
    returns ! (look_at ! 0 refl) $ free_all ! refl $
    use0 𝓛 (raw (fact 𝓤 (i.number ≡ 0))) (fact_i 𝓤 (i.number ≡ 0) (emp 𝓤) refl) $
    pure_i ! (Id.own_val i (u ∷ [])) ((λ vss. (tt, (tt, tt))), tt) (((vunit ∷ [], tt), (refl, (refl, tt))), tt) $
    nothing ! $
    keep ! (3 ∷ 0 ∷ 1 ∷ 2 ∷ []) $ by ! (leaves 𝓛 ended hs c y u i tt tt)))
