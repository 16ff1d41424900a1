use Rattle.std.proofs.Common.{◌≡◌, ℕ, false, Some, refl, sym, ap, ◌∙◌, subst}
use Rattle.lock_event.specs.Lists.{is_listed, is_marked_at, without, with_key}
use Rattle.lock_event.specs.Slots.{has_id}
use Rattle.lock_event.specs.Chains.{at_slot}
use Rattle.weighted_event.specs.Loads.{load, laden, weight_at, waker_in, kept_at}
use Rattle.lock_event.proofs.Ids.{is_listed-in, named, rewritten-with_key}
use Rattle.weighted_event.proofs.Loads.{weight_at-is, kept_at-is}
use Rattle.weighted_event.specs.Ranks.{IsWeighted}
use Rattle.weighted_event.proofs.Ranks.{at_slot-in, IsRanked-listed, IsWeighted-out, IsWeighted-put}
use Rattle.weighted_event.proofs.weighted.WeightedEvent.ask.Goals as goal

pub returns-then-not-contains-clause-asked : goal.returns-then-not-contains-clause-asked
returns-then-not-contains-clause-asked g c =
    let view = ap (λ v. v.entries) c.self.view_is in
    let unlisted : is_listed (has_id c.args.id) c.args.self.now.entries ≡ false = ap (λ es. is_listed (has_id c.args.id) es) (sym view) ∙ (is_listed-in c.args.id c.self.inside.chain.entries ∙ (sym c.contains.ensures ∙ c.if-not-contains.true)) in
    (unlisted, refl, refl)

pub leave-requires : goal.leave-requires
leave-requires g c =
    let start = ap (λ v. v.entries) c.start.ensures in
    IsRanked-listed c.args.id.number c.start.new.self.entries c.self.inside.ranks.row.items c.self.inside.ranks.kind (rw start c.self.invariant.ranks_are) (at_slot-in c.args.id.number c.start.new.self.entries c.remove-gone.result.0 c.remove-gone.ensures.entry)

pub invariant_of-self : goal.invariant_of-self
invariant_of-self g c =
    let start = ap (λ v. v.entries) c.start.ensures in
    let room : c.remove-gone.new.self.room ≡ c.self.inside.chain.room = c.remove-gone.ensures.room ∙ ap (λ v. v.room) c.start.ensures in
    let was : IsWeighted c.start.new.self.entries c.self.inside.chain.room c.self.inside.marked c.self.inside.ranks = subst (λ es. IsWeighted es c.self.inside.chain.room c.self.inside.marked c.self.inside.ranks) (sym start) c.self.invariant in
    rw (c.remove-gone.ensures.entries, c.passed-self-inside.ensures, room) (IsWeighted-out c.args.id.number c.start.new.self.entries c.self.inside.chain.room c.self.inside.marked c.self.inside.ranks c.leave.new.ranks c.laws.ensures.apart was c.leave.ensures.items c.leave.ensures.kind c.leave.ensures.room)

pub returns-then-marked-clause-asked : goal.returns-then-marked-clause-asked
returns-then-marked-clause-asked g c =
    let view = ap (λ v. v.entries) c.self.view_is in
    let same : c.start.new.self.entries ≡ c.args.self.now.entries = ap (λ v. v.entries) c.start.ensures ∙ view in
    let at = named c.args.id c.self.inside.chain.entries c.at-entry.result.now c.at-entry.ensures in (
      ap (λ es. is_marked_at (has_id c.args.id) es) (sym view) ∙ (at.marked ∙ (sym c.is_marked-marked.ensures ∙ c.if-marked.true)),
      c.remove-gone.ensures.entries ∙ ap (λ es. without (has_id c.args.id) es) same,
      c.waker_of.ensures ∙ (sym (kept_at-is c.args.id c.start.new.self.entries c.remove-gone.result.0 c.remove-gone.ensures.entry) ∙ ap (λ es. kept_at c.args.id es) same),
      refl,
    )

pub invariant_of-self-2 : goal.invariant_of-self-2
invariant_of-self-2 g c =
    let start = ap (λ v. v.entries) c.start.ensures in
    let room : c.set_waker-kept.new.self.room ≡ c.self.inside.chain.room = c.set_waker-kept.ensures.room ∙ ap (λ v. v.room) c.start.ensures in
    let was : IsWeighted c.start.new.self.entries c.self.inside.chain.room c.self.inside.marked c.self.inside.ranks = subst (λ es. IsWeighted es c.self.inside.chain.room c.self.inside.marked c.self.inside.ranks) (sym start) c.self.invariant in
    let at_start : at_slot c.args.id.number c.start.new.self.entries ≡ Some c.at-entry.result.now = ap (λ v. at_slot c.args.id.number v.entries) c.start.ensures ∙ c.at-entry.ensures in
    rw (c.set_waker-kept.ensures.entries, room) (IsWeighted-put c.args.id.number (Some (load c.weight_of-weight.result c.args.waker)) c.start.new.self.entries c.self.inside.chain.room c.self.inside.marked c.self.inside.ranks c.at-entry.result.now at_start c.weight_of-weight.ensures was)

pub returns-clause-asked : goal.returns-clause-asked
returns-clause-asked g c =
    let view = ap (λ v. v.entries) c.self.view_is in
    let same : c.start.new.self.entries ≡ c.args.self.now.entries = ap (λ v. v.entries) c.start.ensures ∙ view in
    let at = named c.args.id c.self.inside.chain.entries c.at-entry.result.now c.at-entry.ensures in
    let at_start : at_slot c.args.id.number c.start.new.self.entries ≡ Some c.at-entry.result.now = ap (λ v. at_slot c.args.id.number v.entries) c.start.ensures ∙ c.at-entry.ensures in
    let kept : c.set_waker-kept.result ≡ c.at-entry.result.now.key.waker = rw at_start at c.set_waker-kept.ensures.kept in
    let weight : c.weight_of-weight.result ≡ weight_at c.args.id c.args.self.now.entries =
    c.weight_of-weight.ensures ∙ (sym (weight_at-is c.args.id c.self.inside.chain.entries c.at-entry.result.now c.at-entry.ensures) ∙ ap (weight_at c.args.id) view) in (
      ap (λ es. is_listed (has_id c.args.id) es) (sym view) ∙ (is_listed-in c.args.id c.self.inside.chain.entries ∙ (sym c.contains.ensures ∙ c.if-not-contains.false)),
      ap (λ es. is_marked_at (has_id c.args.id) es) (sym view) ∙ (at.marked ∙ (sym c.is_marked-marked.ensures ∙ c.if-marked.false)),
      c.set_waker-kept.ensures.entries
          ∙ (rewritten-with_key c.args.id (Some (load c.weight_of-weight.result c.args.waker)) c.start.new.self.entries
          ∙ (ap (λ es. with_key (has_id c.args.id) (laden c.args.id c.weight_of-weight.result c.args.waker) es) same
          ∙ ap (λ (n : ℕ). with_key (has_id c.args.id) (laden c.args.id n c.args.waker) c.args.self.now.entries) weight)),
      c.waker_of-2.ensures ∙ (ap waker_in kept ∙ (sym (kept_at-is c.args.id c.start.new.self.entries c.at-entry.result.now at_start) ∙ ap (λ es. kept_at c.args.id es) same)),
    )
