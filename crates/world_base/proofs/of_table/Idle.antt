-- What is so, in any World, of a move that does nothing: one that its party may not make, and a poll of a future that has been ready.
use Rattle.world_base.proofs.Prelude.{◌≡◌, ℕ, ◌&&◌, if◌then◌else◌, Bool, true, false, Option, Some, None, refl, sym, ◌∙◌, subst, Answer, Call, Move, What, Begin, Refusal, Rest, Holding, Finished, Within, is_poll_after_ready, call_of, IsPossible, IsRefusedForCause, EndsProperly, Standing, outside, inside, forgotten, call_in, refused, Decides, StandsAfter}
use Rattle.world_base.specs.declared.moves.Call.TheVariants.{Poll}
use Rattle.world_base.specs.declared.standing.Kind.TheVariants.{LaterPoll}
use Rattle.world_base.proofs.Equations.{some_eq, none_some, outside_inside}

-- where nothing moves, nothing is decided but the answer
pub same_decides : (s : Standing) (a b : Answer) → Decides s a s b → b ≡ a
same_decides (outside r) a b d = sym (some_eq d.1)
same_decides (inside w None) a b d = absurd (none_some d.1)
same_decides (inside w (Some c)) a b d = absurd (cc (d.0))
same_decides forgotten a b d = sym (some_eq d.1)

-- a poll after ready is possible, where polls are known
module _ (knows : Call → Bool) where
  pub again_possible : knows Poll ≡ true → (s : Standing) (what : What) → is_poll_after_ready s what ≡ true → call_in knows s what ≡ None → ⊥
  again_possible k (outside Holding) (Begin Poll i) h e = let some = rw k at e in cc (some)
  again_possible k (outside Finished) (Begin Poll i) h e = let some = rw k at e in cc (some)
  again_possible k _ _ h e = cc (h)

  known_as : (b : Bool) (w u : Within) → (if b then Some w else None) ≡ Some u → w ≡ u
  known_as true w u e = some_eq e
  known_as false w u e = absurd (none_some e)

  -- and leaves its party as it stood
  pub again_stands : (ready : Rest) (s : Standing) (what : What) → is_poll_after_ready s what ≡ true → (u : Within) → call_in knows s what ≡ Some u → StandsAfter ready u (refused Refusal.Finished) s
  again_stands ready (outside Holding) (Begin Poll i) h u e = (let P : Within → Type 0 = λ w. StandsAfter ready w (refused Refusal.Finished) (outside Holding) in subst P (known_as (knows Poll && true) (record { kind = LaterPoll; was = Holding }) u e) (refl, refl))
  again_stands ready (outside Finished) (Begin Poll i) h u e = (let P : Within → Type 0 = λ w. StandsAfter ready w (refused Refusal.Finished) (outside Finished) in subst P (known_as (knows Poll && true) (record { kind = LaterPoll; was = Finished }) u e) (refl, refl))
  again_stands ready _ _ h u e = absurd (cc (h))

pub again_outside : (s : Standing) (what : What) → is_poll_after_ready s what ≡ true → (u : Within) (d : Option Answer) → s ≡ inside u d → ⊥
again_outside (outside r) what h u d e = outside_inside e
again_outside _ what h u d e = cc (h)

module _ {W : Type 0} (standing_of : W → ℕ → Standing) (knows : W → ℕ → Call → Bool) (ready : Rest) (IsCause : W → Move → W → Refusal → Type 0) (w : W) (m : Move) (polls : knows w m.party Poll ≡ true) where
  abbrev s : Standing
  s = standing_of w m.party

  -- the clauses of a legal step that speak of no primitive
  pub record Idle (a : Answer) : Type 0 where
    pub possible : IsPossible standing_of knows w m a w
    pub refused_for_cause : IsRefusedForCause standing_of IsCause w m a w
    pub ends_properly : EndsProperly standing_of knows ready w m a w

  pub impossible : call_of standing_of knows w m ≡ None → Idle Answer.NotPossible
  impossible none = record {
    possible = record { exactly = ((λ e. none), (λ e. refl)); unchanged = λ e. refl };
    refused_for_cause = record {
      cause = λ n d. (let e = same_decides s Answer.NotPossible (Answer.Refused n) d in absurd (cc (e)));
      memory = λ d. (let e = same_decides s Answer.NotPossible (refused Refusal.Memory) d in absurd (cc (e)));
      after_ready = ((λ e. absurd (cc (e))), (λ e. absurd (again_possible (knows w m.party) polls s m.what e none)));
    };
    ends_properly = record { stands = λ u e. absurd (none_some (sym none ∙ e)); as_decided = λ u b e h. absurd (cc (h)) };
  }

  refused_so : (n k : ℕ) → Answer.Refused n ≡ Answer.Refused k → n ≡ k
  refused_so n k e = cc

  pub over : is_poll_after_ready s m.what ≡ true → IsCause w m w Refusal.Finished → Idle (refused Refusal.Finished)
  over again cause = record {
    possible = record { exactly = ((λ e. absurd (cc (e))), (λ e. absurd (again_possible (knows w m.party) polls s m.what again e))); unchanged = λ e. refl };
    refused_for_cause = record {
      cause = λ n d. (Refusal.Finished, refused_so n _ (same_decides s (refused Refusal.Finished) (Answer.Refused n) d), cause);
      memory = λ d. (let e : 1 ≡ 6 = refused_so 1 6 (same_decides s (refused Refusal.Finished) (refused Refusal.Memory) d) in absurd (cc (e)));
      after_ready = ((λ e. again), (λ e. refl));
    };
    ends_properly = record { stands = again_stands (knows w m.party) ready s m.what again; as_decided = λ u b e h. absurd (again_outside s m.what again u (Some b) e) };
  }
