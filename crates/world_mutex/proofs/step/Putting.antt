-- A put of the holder is a legal step: it leaves its value, and nothing else changes.
use Rattle.world_mutex.proofs.Prelude.{◌≡◌, ◌≢◌, ℕ, ◌||◌, inl, inr, Bool, true, false, Some, refl, ap, sym, ◌∙◌, false≢true, true≢false, entries_of, Answer, Call, Value, Inputs, Move, Begin, Refusal, Kind, Rest, Outside, is_drop, is_poll_after_ready, outside, call_in, is_possible, is_decided, decided_on, refused, changes, some_eq, none_some, outside_inside, is_granted, granted_eq, stage_at, stands_as, Table, length-standings, IsMutex, bit, holds, is_holder, Guarded, knows, place_of, with_value, puts, is_first_poll, is_later_poll, call_of, HasItsOwn, World, standing_of, IsMutexTable, verdict, view_of, within}
use Rattle.world_base.proofs.of_table.Acting as acting
use Rattle.world_mutex.proofs.of_machine.laws.Seen as sees
use Rattle.world_mutex.proofs.step.Idle.{IsGood}
use Rattle.world_mutex.proofs.step.Owns as owns
use Rattle.world_mutex.proofs.table.Seen as seen

no_bit : (b : Bool) → (bit b ≡ 1 → ⊥) → bit b ≡ 0
no_bit true h = absurd (h refl)
no_bit false h = refl

module _ (t : Table Guarded) (n p : ℕ) (i : Inputs) (laws : IsMutex t.machine.lock) (fits : IsMutexTable t) (at : stage_at t.stages p ≡ Outside Rest.Holding) where
  abbrev m : Move
  m = record { party = p; what = Begin (Call.Put n) i }

  abbrev a : Answer
  a = Answer.Granted (Value n)

  abbrev left : Table Guarded
  left = record { machine = with_value t.machine n; stages = t.stages; opening = t.opening }

  abbrev old : World
  old = view_of t

  abbrev new : World
  new = view_of left

  left_fits : IsMutexTable left
  left_fits = record { as_many = fits.as_many; stands = fits.stands }

  was : standing_of old p ≡ outside Rest.Holding
  was = seen.stands_seen t p ∙ ap (stands_as (verdict t.machine p)) at

  is : standing_of new p ≡ outside Rest.Holding
  is = seen.stands_seen left p ∙ ap (stands_as (verdict left.machine p)) at

  own : HasItsOwn old p (outside Rest.Holding)
  own = rw was at (owns.each t laws fits p)

  called : call_of old m ≡ Some (within Kind.Put Rest.Holding)
  called = ap (λ z. call_in knows z m.what) was

  -- nobody else holds the lock
  out : (q : ℕ) → q ≢ p → holds (place_of t.machine q) ≡ 0
  out q apart = sym (sees.holds_bit (place_of t.machine q)) ∙ no_bit (is_holder (place_of t.machine q))
      (λ one. apart (some_eq (sym (sees.holds_it t.machine.lock.places q laws.one_holder (sym (sees.holds_bit (place_of t.machine q)) ∙ one)) ∙ own.1)))

  others_stand : (q : ℕ) → q ≢ p → standing_of new q ≡ standing_of old q
  others_stand q apart = seen.stands_seen left q ∙ (ap (λ d. stands_as d (stage_at t.stages q)) (seen.verdict_same n t.machine.value (place_of t.machine q) (out q apart)) ∙ sym (seen.stands_seen t q))

  only : (b : Answer) → decided_on a (standing_of new p) ≡ Some b → a ≡ b
  only b d = some_eq (sym (ap (decided_on a) is) ∙ d)

  unlike : (b : Answer) → decided_on a (standing_of new p) ≡ Some b → is_granted b ≡ false → ⊥
  unlike b d h = true≢false (ap is_granted (only b d) ∙ h)

  not_first : is_first_poll (standing_of old p) m.what (entries_of p old.entries) ≡ false
  not_first = ap (λ z. is_first_poll z m.what (entries_of p old.entries)) was

  pub putting : IsGood old m a new
  putting = record {
    legal = record {
      possible = acting.possible_so standing_of (λ y q. knows) Rest.Holding old m a new (within Kind.Put Rest.Holding) called refl;
      one_change = record {
        effect = changes (puts n);
        state = refl;
        entries = refl;
        limit = refl;
        opening_value = refl;
        others = others_stand;
        parties = length-standings (verdict left.machine) t.stages ∙ sym (length-standings (verdict t.machine) t.stages);
        found_memory = λ list e. absurd (cc);
        giving_up = λ g. absurd (cc);
        notice = refl;
        tells = λ list n e. absurd (cc);
        parting = λ h. (let never : is_decided (outside Rest.Holding) || is_drop m.what ≡ true = rw was at h in absurd (false≢true never));
      };
      taken_fairly = λ q is was. absurd (was is);
      others_keep = record { lock = λ q apart. ((λ h. h), (λ h. h)); starved = λ q apart. refl; limit = λ was is. absurd (cc) };
      carries = record { ready = λ got d. absurd (unlike (Answer.Ready got) d.1 refl); granted = λ got d. (granted_eq n got (only (Answer.Granted got) d.1), own.1) };
      waits = record { waiting = λ e. absurd (cc); not_before = owns.not_pending left laws left_fits p };
      refused_for_cause = record {
        cause = λ c d. absurd (unlike (Answer.Refused c) d.1 refl);
        memory = λ d. absurd (unlike (refused Refusal.Memory) d.1 refl);
        after_ready = ((λ e. absurd (true≢false (ap is_granted e))), (λ e. (let never : false ≡ true = sym (ap (λ z. is_poll_after_ready z m.what) was) ∙ e in absurd (false≢true never))));
      };
      leaves_clear = record { each = owns.each left laws left_fits; decided = owns.ends_well left laws left_fits; refused = λ h. absurd (false≢true h) };
      value_kept = record {
        put = λ v e h. (let same : n ≡ v = some_eq e in (ap (λ x. Answer.Granted (Value x)) same, same));
        kept = λ h. elim h as (λ _. n ≡ t.machine.value) [ inl e ↦ absurd (none_some (sym e)) | inr e ↦ absurd (true≢false (ap is_possible e)) ];
      };
      ends_properly = acting.ends_so standing_of (λ y q. knows) Rest.Holding old m a new (within Kind.Put Rest.Holding) called refl (refl, is) (λ v b e. absurd (outside_inside (sym was ∙ e)));
    };
    at_once = record {
      at_once = λ e h. absurd (cc);
      ready = λ e. absurd (false≢true (sym not_first ∙ e));
      first_poll = λ e. absurd (false≢true (sym not_first ∙ e));
      looks = λ e h. absurd (false≢true (sym not_first ∙ e));
      listed = λ e some. absurd (false≢true (sym (ap (λ z. is_later_poll z m.what) was) ∙ e));
      released = λ e h. absurd (cc);
      abandons = λ e h some plain. absurd (cc);
      notifies = λ e h. absurd (outside_inside (sym was ∙ e));
      refuses = λ within r e none plain possible. absurd (outside_inside (sym was ∙ e));
    };
  }
