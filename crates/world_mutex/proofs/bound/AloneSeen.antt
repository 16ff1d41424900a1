-- What a poll that is carried out alone does to a free lock, as callers see it.
use Rattle.world_mutex.proofs.Prelude.{◌≡◌, ◌≢◌, ℕ, ◌<◌, ◌⊎◌, inl, inr, true, false, None, refl, sym, ap, ◌∙◌, subst, arith, set, list_all, entries_of, Answer, Call, Value, Inputs, Refusal, Rest, Outside, Account, how_many, is_outside_stage, moves_of, answers_of, marked_listed, stage_at, stage_after, Table, by_stage_or_past_at, rest_seen, outside_stage, End, Next, Place, IsMutex, IsStarved, starved, is_waiting, bit, holds, listed, IsCalled, Took, StandsBack, GaveWay, PollsAlone, is_counted, IsSolo, GivesWay, SoloPoll, Guarded, place_of, goes_with, answer_by, is_at_rest, Runs, World, is_starved, Stands, IsMutexTable, verdict, view_of, Kind, within, is_refusal}
use Rattle.world_base.proofs.Rests.{still_outside}
use Rattle.world_mutex.proofs.of_machine.solo_polls.Parts.{gave_way}
use Rattle.world_mutex.proofs.of_machine.laws.Seen as sees
use Rattle.world_mutex.proofs.of_machine.solo_polls.SoloPolls.{solo_polls}
use Rattle.world_mutex.specs.Bound.{Takes}
use Rattle.world_mutex.proofs.bound.Alone.{Ended, polls_alone}
use Rattle.world_mutex.proofs.table.Seen as seen

-- a pending party with an entry waits
pub waits_listed : (x : Place) → goes_with (Outside Rest.Pending) x ≡ true → 0 < listed x → is_waiting x ≡ true
waits_listed Place.Out g l = absurd (omega arith)
waits_listed Place.Ask g l = refl
waits_listed Place.AskStarved g l = refl
waits_listed _ g l = absurd (cc (g))

module _ (t : Table Guarded) (p : ℕ) where
  starved_seen : is_starved (view_of t).state p ≡ is_counted (place_of t.machine p)
  starved_seen = sees.starved_at t.machine.lock.places p

  module _ (u : Table Guarded) (a : Answer) (um : IsMutex u.machine.lock) (uf : IsMutexTable u) where
    takes_seen : (e : End) → Took p e u.machine.lock → Ended t p a u e → Takes (view_of t) p a (view_of u)
    takes_seen e took k = record {
      ready = k.answer ∙ (ap (λ x. answer_by false t.machine.value (Next.End x)) took.0 ∙ ap (λ v. Answer.Ready (Value v)) (sym k.value));
      kept = k.value;
      holder = sees.holds_it u.machine.lock.places p um.one_holder (ap holds took.1);
    }

    rests_seen : u.stages ≡ set t.stages p (Outside Rest.Pending) → is_at_rest (view_of t) ≡ true → is_at_rest (view_of u) ≡ true
    rests_seen is resting =
        let before : list_all is_outside_stage t.stages ≡ true = sym (rest_seen (verdict t.machine) t.stages) ∙ resting in
        rest_seen (verdict u.machine) u.stages ∙ (ap (list_all is_outside_stage) is ∙ still_outside t.stages p (Outside Rest.Pending) refl before)

    gives_seen : (e : End) → 0 < entries_of p t.machine.lock.entries → is_refusal a ≡ false → GaveWay p t.machine.lock e u.machine.lock → StandsBack p t.machine.lock e u.machine.lock → Ended t p a u e → GivesWay (view_of t) p a (view_of u)
    gives_seen End.Pending there below g back k = record {
      free = sees.none_held 0 u.machine.lock.places g.free;
      pending = k.answer;
      gave_way = gave_way p t.machine.lock u.machine.lock g there;
      rests = rests_seen (k.stages ∙ ap (λ b. set t.stages p (stage_after Rest.Holding (within Kind.LaterPoll Rest.Pending) b)) k.answer);
    }
    gives_seen (End.Refused Refusal.Starved) there below g back k = absurd (let is : is_refusal a ≡ true = ap is_refusal k.answer in cc (is, below))
    gives_seen _ there below g back k = absurd back

  module _ (i : Inputs) (tm : IsMutex t.machine.lock) (tf : IsMutexTable t) (solo : IsSolo (view_of t) p i) where
    -- the party stands pending in the table
    pub at_stage : stage_at t.stages p ≡ Outside Rest.Pending
    at_stage = outside_stage (verdict t.machine p) (stage_at t.stages p) Rest.Pending (sym (seen.stands_seen t p) ∙ solo.pending)

    listed_here : 0 < entries_of p t.machine.lock.entries
    listed_here = marked_listed p t.machine.lock.entries solo.marked

    pending_inside : (stage_at t.stages p ≡ Outside Rest.Pending) → goes_with (Outside Rest.Pending) (place_of t.machine p) ≡ true
    pending_inside at = by_stage_or_past_at t.stages p (goes_with (Outside Rest.Pending) (place_of t.machine p) ≡ true)
        (λ past. absurd (cc (sym past ∙ at)))
        (λ inside. ap (λ s. goes_with s (place_of t.machine p)) (sym at) ∙ tf.stands p inside)

    is_called : IsCalled t.machine.lock p
    is_called = (waits_listed (place_of t.machine p) (pending_inside at_stage) (omega (arith, tm.owners p, listed_here)), solo.marked)

    why_seen : (is_starved (view_of t).state p ≡ true) ⊎ (how_many (view_of t).state.starved ≡ 0) → IsStarved t.machine.lock p ⊎ (starved t.machine.lock ≡ 0)
    why_seen (inl starving) = inl (sym (sees.counted_bit (place_of t.machine p)) ∙ ap bit (sym starved_seen ∙ starving))
    why_seen (inr none) = inr (sym (sees.how_many_counted t.machine.lock.places) ∙ none)

    module _ (u : Table Guarded) (a : Answer) (um : IsMutex u.machine.lock) (uf : IsMutexTable u) where
      either_seen : (e : End) → Ended t p a u e → is_refusal a ≡ false → Took p e u.machine.lock ⊎ GaveWay p t.machine.lock e u.machine.lock → Takes (view_of t) p a (view_of u) ⊎ GivesWay (view_of t) p a (view_of u)
      either_seen e k below (inl took) = inl (takes_seen u a um uf e took k)
      either_seen e k below (inr gave) = inr (gives_seen u a um uf e listed_here below gave gave.stands_back k)

      -- who is refused met the limit, and isn't starved
      refused_seen : (e : End) → Ended t p a u e → is_refusal a ≡ true → Took p e u.machine.lock ⊎ GaveWay p t.machine.lock e u.machine.lock → (how_many (view_of t).state.starved ≡ t.machine.lock.limit) × (is_starved (view_of t).state p ≡ false)
      refused_seen e k is (inl took) = absurd (let never : is_refusal a ≡ false = ap is_refusal (takes_seen u a um uf e took k).ready in cc (is, never))
      refused_seen e k is (inr gave) = (sees.how_many_counted t.machine.lock.places ∙ at_limit e k is gave.stands_back, starved_seen ∙ ap is_counted gave.unstarved_here) where
        at_limit : (e : End) → Ended t p a u e → is_refusal a ≡ true → StandsBack p t.machine.lock e u.machine.lock → starved t.machine.lock ≡ t.machine.lock.limit
        at_limit End.Pending k is back = absurd (let never : is_refusal a ≡ false = ap is_refusal k.answer in cc (is, never))
        at_limit (End.Refused Refusal.Starved) k is back = back.2
        at_limit _ k is back = absurd back

      pub ended_seen : (e : End) → PollsAlone true p e u.machine.lock t.machine.lock → Ended t p a u e → (view_of t).state.holder ≡ None → SoloPoll (view_of t) p a (view_of u)
      ended_seen e polls k free =
          let law = solo_polls t.machine.lock tm (sees.none_holds 0 t.machine.lock.places free) in
          record {
            takes_or_gives_way = λ below. either_seen e k below (law.takes_or_gives_way p e u.machine.lock is_called polls);
            refused = λ is. refused_seen e k is (law.takes_or_gives_way p e u.machine.lock is_called polls);
            takes = λ why. takes_seen u a um uf e (law.takes true p e u.machine.lock is_called (why_seen why) polls) k;
          }

-- a solo poll that was carried out alone keeps its promise
pub poll_seen : (known : ℕ → Account) (w : World) (p : ℕ) (i : Inputs) (k : ℕ) (a : Answer) (v : World) → Stands w → Stands v → Runs known w (moves_of p Call.Poll i k) (answers_of k a) v → a ≢ Answer.Stepped → IsSolo w p i → w.state.holder ≡ None → SoloPoll w p a v
poll_seen known w p i k a v stood stands runs not_stepped solo free =
    let seen_so = subst (λ x. IsSolo x p i) stood.seen solo in
    let polls = polls_alone p i solo.memory known k w v a not_stepped (at_stage w.behind p i stood.laws stood.fits seen_so) runs in
    subst (λ x. SoloPoll x p a v) (sym stood.seen)
    (subst (SoloPoll (view_of w.behind) p a) (sym stands.seen)
    (ended_seen w.behind p i stood.laws stood.fits seen_so v.behind a stands.laws stands.fits polls.0 polls.1 polls.2 (sym (ap (λ x. x.state.holder) stood.seen) ∙ free)))
