use Rattle.std.proofs.Common.{◌≡◌, None, sym}
use Rattle.weighted_event.specs.Rows.{IsFirstFit}
use Rattle.weighted_event.specs.Ranks.{ranked}
use Rattle.weighted_event.proofs.Ranks.{found_some, found_none}
use Rattle.weighted_event.proofs.weighted.search.Goals as goal

pub returns-in-Some-clause-found : goal.returns-in-Some-clause-found
returns-in-Some-clause-found g c =
    let is : c.args.ranks.now.row.items ≡ ranked c.args.chain.now.entries = rw c.in-Ranked.is at c.requires.ranked in
    sym (found_some c.args.a c.args.chain.now.entries c.args.ranks.now.row.items c.in-Some.item is (rw c.in-Some.is at c.find-found.ensures.item))

pub returns-in-None-clause-found : goal.returns-in-None-clause-found
returns-in-None-clause-found g c =
    let is : c.args.ranks.now.row.items ≡ ranked c.args.chain.now.entries = rw c.in-Ranked.is at c.requires.ranked in
    let none : IsFirstFit c.args.a c.args.ranks.now.row.items None = rw c.in-None.is at c.find-found.ensures.item in
    sym (found_none c.args.a c.args.chain.now.entries c.args.ranks.now.row.items is none)
