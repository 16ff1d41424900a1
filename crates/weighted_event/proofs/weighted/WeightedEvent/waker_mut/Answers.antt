use Rattle.std.proofs.Common.{◌≡◌, ℕ, Option, not, true, false, IfSome, Some, is_some, min, inl, sym, ap, ◌∙◌}
use Rattle.lock_event.specs.Lists.{is_marked, is_waiting_at, with_key}
use Rattle.lock_event.specs.Slots.{has_id}
use Rattle.lock_event.specs.Waiting.{Waiters}
use Rattle.lock_event.specs.Chains.{is_in, at_slot}
use Rattle.lock_event.proofs.Ids.{named, rewritten-with_key}
use Rattle.weighted_event.specs.declared.weighted.Load.{Load}
use Rattle.weighted_event.specs.Loads.{load, laden, weight_in, weight_of, weight_at, waker_in, kept_at}
use Rattle.weighted_event.specs.LoadLends.{weighted_with}
use Rattle.weighted_event.proofs.Loads.{listed-at, weight_at-is, kept_at-is}
use Rattle.weighted_event.proofs.Ranks.{IsWeighted-put}
use Rattle.weighted_event.proofs.weighted.WeightedEvent.waker_mut.Goals as goal

pub beside-requires : goal.beside-requires
beside-requires g c =
    let es = c.self.inside.chain.entries in
    let at = listed-at es c.args.id.number (c.is_laden.ensures.listed c.if-is_laden.true) in
    let there : IfSome (at_slot c.args.id.number es) (λ e. (is_marked e.mark ≡ false) × (is_some e.key.waker ≡ true)) = c.is_laden.ensures.laden c.if-is_laden.true in
    let laden = rw at.1 at there in
    let kept : c.waker_mut.result.now ≡ at.0.key.waker = rw at.1 at c.waker_mut.ensures.waker in
    ap is_some kept ∙ laden.1

pub invariant_of-self-lent : goal.invariant_of-self-lent
invariant_of-self-lent g c w =
    let es = c.self.inside.chain.entries in
    let at = listed-at es c.args.id.number (c.is_laden.ensures.listed c.if-is_laden.true) in
    let kept : c.waker_mut.result.now ≡ at.0.key.waker = rw at.1 at c.waker_mut.ensures.waker in
    IsWeighted-put c.args.id.number (Some (load (weight_in c.waker_mut.result.now) w)) es c.self.inside.chain.room c.self.inside.marked c.self.inside.ranks at.0 at.1 (ap weight_in kept) c.self.invariant

pub returns-then-is_laden : goal.returns-then-is_laden
returns-then-is_laden g c =
    let es = c.self.inside.chain.entries in
    let view : es ≡ c.args.self.now.entries = ap (λ v. v.entries) c.self.view_is in
    let at = listed-at es c.args.id.number (c.is_laden.ensures.listed c.if-is_laden.true) in
    let there : IfSome (at_slot c.args.id.number es) (λ e. (is_marked e.mark ≡ false) × (is_some e.key.waker ≡ true)) = c.is_laden.ensures.laden c.if-is_laden.true in
    let bears = rw at.1 at there in
    let kept : c.waker_mut.result.now ≡ at.0.key.waker = rw at.1 at c.waker_mut.ensures.waker in
    let weight : weight_in c.waker_mut.result.now ≡ weight_at c.args.id es = ap weight_in kept ∙ sym (weight_at-is c.args.id es at.0 at.1) in
    let ends = λ (w : Option g.row.W.Denot).
    ap {B = Waiters (Load g.row.W.Denot)} (λ xs. record { entries = xs; room = min c.self.inside.chain.room c.self.inside.ranks.row.room; visits = c.self.inside.visits })
    (rewritten-with_key c.args.id (Some (load (weight_in c.waker_mut.result.now) w)) es ∙ ap {A = ℕ} (λ n. with_key (has_id c.args.id) (laden c.args.id n w) es) weight)
    ∙ ap {A = Waiters (Load g.row.W.Denot)} {B = Waiters (Load g.row.W.Denot)} (λ v. weighted_with v c.args.id w) c.self.view_is in (
      (λ i. inl (c.beside.result.ghost_name, λ w. ends w i)),
      record {
        writes_back = tt;
        waits = λ some. ap (λ xs. is_waiting_at (has_id c.args.id) xs) (sym view) ∙ ((named c.args.id es at.0 at.1).waits ∙ ap not bears.0);
        waker = c.beside.ensures.waker ∙ (ap waker_in kept ∙ (sym (kept_at-is c.args.id es at.0 at.1) ∙ ap (λ xs. kept_at c.args.id xs) view));
      },
    )
