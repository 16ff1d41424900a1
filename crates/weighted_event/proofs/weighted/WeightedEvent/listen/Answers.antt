use Rattle.std.proofs.Common.{◌≡◌, ◌≤◌, ◌∷◌, ◌++◌, [], Some, None, false, sym, ap, ◌∙◌, subst, arith}
use Rattle.lock_event.specs.Lists.{joined, entry}
use Rattle.lock_event.specs.declared.event.Mark.TheVariants.{Waiting}
use Rattle.lock_event.specs.Nodes.{fresh_entry}
use Rattle.lock_event.specs.Chains.{is_in, rewritten, with_waker}
use Rattle.weighted_event.specs.Loads.{IsOneMarked, load, laden}
use Rattle.lock_event.proofs.Ids.{is_listed-in}
use Rattle.weighted_event.proofs.Loads.{IsOneMarked-push, IsOneMarked-put, put-joined, in-push}
use Rattle.weighted_event.proofs.Ranks.{IsRanked-room, IsRanked-fresh, IsWeighted-joined}
use Rattle.weighted_event.proofs.weighted.WeightedEvent.listen.Goals as goal

pub put-requires-clause-listed : goal.put-requires-clause-listed
put-requires-clause-listed g c =
    let pushed = ap (λ v. v.entries) c.start-2.ensures ∙ c.in-Ok.ensures.entries in
    ap (is_in c.in-Ok.number) pushed ∙ in-push c.start.new.self.entries c.in-Ok.number

pub join-requires-clause-room : goal.join-requires-clause-room
join-requires-clause-room g c = IsRanked-room c.reserve.new.self.entries c.settle.new.ranks.row.items c.settle.new.ranks.kind c.settle.new.ranks.row.room c.args.weight c.settle.ensures.ranked c.in_ok-settle.ensures.ready

pub join-requires-clause-fresh : goal.join-requires-clause-fresh
join-requires-clause-fresh g c =
    let vacant : is_in c.in-Ok.number c.reserve.new.self.entries ≡ false = ap (λ v. is_in c.in-Ok.number v.entries) (sym c.start.ensures) ∙ c.in-Ok.ensures.vacant in
    IsRanked-fresh c.reserve.new.self.entries c.settle.new.ranks.row.items c.settle.new.ranks.kind c.in-Ok.number c.settle.ensures.ranked vacant

pub invariant_of-self-2 : goal.invariant_of-self-2
invariant_of-self-2 g c =
    let start = ap (λ v. v.entries) c.start.ensures in
    let begin = start ∙ c.reserve.ensures.entries in
    let pushed = ap (λ v. v.entries) c.start-2.ensures ∙ (c.in-Ok.ensures.entries ∙ ap (λ es. es ++ fresh_entry c.in-Ok.number ∷ []) begin) in
    let one : IsOneMarked c.start-2.new.self.entries c.self.inside.marked = subst (λ es. IsOneMarked es c.self.inside.marked) (sym pushed) (IsOneMarked-push c.self.inside.chain.entries c.in-Ok.number c.self.inside.marked c.self.invariant.one) in
    let later : IsOneMarked c.put.new.chain.entries c.self.inside.marked = rw c.put.ensures.entries (IsOneMarked-put c.in-Ok.number _ c.start-2.new.self.entries c.self.inside.marked one) in
    let is : c.put.new.chain.entries ≡ c.reserve.new.self.entries ++ entry (laden (record { number = c.in-Ok.number }) c.args.weight None) Waiting ∷ [] =
    c.put.ensures.entries
    ∙ (ap (λ es. rewritten c.in-Ok.number (with_waker (Some (load c.args.weight None))) es) (ap (λ v. v.entries) c.start-2.ensures ∙ c.in-Ok.ensures.entries)
    ∙ (put-joined c.start.new.self.entries c.in-Ok.number c.args.weight None c.in-Ok.ensures.vacant
    ∙ ap (λ es. es ++ entry (laden (record { number = c.in-Ok.number }) c.args.weight None) Waiting ∷ []) start)) in
    let grown : c.self.inside.chain.room ≤ c.reserve.new.self.room = c.reserve.ensures.kept in
    let more : c.reserve.new.self.room ≤ c.put.new.chain.room = omega (arith, c.put.ensures.room, ap (λ v. v.room) c.start-2.ensures, c.push_back.ensures.room, ap (λ v. v.room) c.start.ensures) in
    let lean = c.settle.ensures.lean (omega (arith, c.self.invariant.lean, grown)) in
    IsWeighted-joined c.reserve.new.self.entries c.put.new.chain.entries c.put.new.chain.room c.self.inside.marked c.settle.new.ranks c.join.new.ranks c.in-Ok.number c.args.weight None later is c.settle.ensures.ranked c.in_ok-settle.ensures.ready c.join.ensures.items c.join.ensures.kind c.join.ensures.room (omega (arith, lean, more))

pub returns-clause-joined : goal.returns-clause-joined
returns-clause-joined g c =
    let same : c.start.new.self.entries ≡ c.args.self.now.entries = ap (λ v. v.entries) c.start.ensures ∙ (c.reserve.ensures.entries ∙ ap (λ v. v.entries) c.self.view_is) in
    let pushed = ap (λ v. v.entries) c.start-2.ensures ∙ c.in-Ok.ensures.entries in
    c.put.ensures.entries
    ∙ (ap (λ es. rewritten c.in-Ok.number (with_waker (Some (load c.args.weight None))) es) pushed
    ∙ (put-joined c.start.new.self.entries c.in-Ok.number c.args.weight None c.in-Ok.ensures.vacant
    ∙ ap (λ es. joined es (laden (record { number = c.in-Ok.number }) c.args.weight None)) same))

pub returns-clause-fresh : goal.returns-clause-fresh
returns-clause-fresh g c =
    let same : c.start.new.self.entries ≡ c.args.self.now.entries = ap (λ v. v.entries) c.start.ensures ∙ (c.reserve.ensures.entries ∙ ap (λ v. v.entries) c.self.view_is) in
    is_listed-in (record { number = c.in-Ok.number }) c.args.self.now.entries ∙ (ap (is_in c.in-Ok.number) (sym same) ∙ c.in-Ok.ensures.vacant)
