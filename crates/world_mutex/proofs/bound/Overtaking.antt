-- A starved party is overtaken at most as often as entries stand before its own.
use Rattle.world_mutex.proofs.Prelude.{◌≡◌, ◌≢◌, ℕ, ◌+◌, ◌-◌, ◌<◌, ◌≤◌, ◌==◌, inl, inr, true, List, Some, sym, ap, ◌∙◌, subst, arith, nat_tests, chosen, Entry, notifies_one, without, marked_count, is_marked_at, IsMarkedFirst, is_party, entries_of, Answer, Call, Inputs, What, Begin, Move, Rest, outside, Account, accounts_after, accounts_of, going_on, moves_of, answers_of, Effect, nothing, changes, does, joins, asks, leaves, notifies, notifies_additionally, beginning, along, first_of, Onward, IsNotified, IsSound, Promises, is_later_poll, Runs, HoldsWell, World, standing_of, Stands, Steps}
use Rattle.std.proofs.lemmas.Bool.{cases_lt}
use Rattle.world_base.proofs.Lists.{others}
use Rattle.world_base.proofs.Overtaking.{list_before, marked_there, told_before, some_on, seldom}
use Rattle.world_base.specs.Overtaking.{before, Passes}
use Rattle.world_mutex.specs.Legal.{Change, ListName, for_the_lock, entries_after}
use Rattle.world_mutex.specs.Overtaking.{starved_in, Holds, IsOvertakenSeldom}
use Rattle.world_mutex.specs.Whole.{IsWholeCall}
use Rattle.world_mutex.proofs.laws.WorldLaws.{keeps_promise}
use Rattle.world_base.proofs.OneMarked.{one_after}

-- ---- one entry is marked at most

notifies_so : (n : ℕ) → (n == 1) ≡ true → n ≡ 1
notifies_so n e = grind (arith, nat_tests)

one_more : (p : ℕ) (d : Effect Change ListName) (l : List (Entry ℕ)) → notifies_one d ≡ true → marked_count l ≤ 1 → marked_count (entries_after p d l) ≤ 1
one_more p nothing l so one = one
one_more p (changes c) l so one = one
one_more p (does for_the_lock joins) l so one = one_after p joins l tt one
one_more p (does for_the_lock asks) l so one = one_after p asks l tt one
one_more p (does for_the_lock leaves) l so one = one_after p leaves l tt one
one_more p (does for_the_lock (notifies n)) l so one = one_after p (notifies n) l (notifies_so n so) one
one_more p (does for_the_lock (notifies_additionally n)) l so one = absurd (cc so)

-- each step leaves it so
pub one_told : (x v : World) (m : Move) (a : Answer) → Steps x m a v → marked_count x.entries ≤ 1 → marked_count v.entries ≤ 1
one_told x v m a s one = omega (arith, ap marked_count s.legal.one_change.entries, one_more m.party s.legal.one_change.effect x.entries s.legal.one_change.notice one)

-- ---- along a call of another party

module _ (q p : ℕ) (apart : p ≢ q) (i : Inputs) (bound : ℕ) where
  record Before (y : World) : Type 0 where
    pub low : before q y.entries ≤ bound
    pub there : 0 < entries_of q y.entries

  effect_keeps : (x v : World) (d : Effect Change ListName) → v.entries ≡ entries_after p d x.entries → Before x → Before v
  effect_keeps x v nothing e b = record { low = rw e b.low; there = rw e b.there }
  effect_keeps x v (changes c) e b = record { low = rw e b.low; there = rw e b.there }
  effect_keeps x v (does for_the_lock f) e b = record {
    low = omega (arith, ap (before q) e, list_before q p f x.entries apart b.there, b.low);
    there = omega (arith, ap (entries_of q) e, others p x.entries f q (λ h. apart (sym h)), b.there);
  }

  keeps : (x : World) (what : What) (a : Answer) (v : World) → Before x → Steps x (record { party = p; what = what }) a v → Onward Before (λ b y. Before y) a v
  keeps x what a v b s = let on = effect_keeps x v s.legal.one_change.effect s.legal.one_change.entries b in record { going = λ e. on; ended = λ e. on }

-- ---- a whole call

module _ (known : ℕ → Account) (w : World) (q p : ℕ) (apart : p ≢ q) (c : Call) (i : Inputs) (n : ℕ) (a : Answer) (v : World) (stood : Stands w) (runs : Runs known w (moves_of p c i n) (answers_of n a) v) (ended : a ≢ Answer.Stepped) (there : 0 < entries_of q w.entries) where
  never_more : before q v.entries ≤ before q w.entries
  never_more =
      let b = before q w.entries in
      (along Steps accounts_after HoldsWell p i (Before q p apart i b) (λ z y. Before q p apart i b y) (λ x z y g s. keeps q p apart i b x (What.Go i) z y g s) known n w (beginning p c i) a v
      (λ z x s. keeps q p apart i b w (Begin c i) z x (record { low = omega arith; there = there }) s) ended runs).low

  fewer : marked_count w.entries ≤ 1 → c ≡ Call.Poll → IsNotified w p → before q v.entries + 1 ≤ before q w.entries
  fewer one is told =
      let b = before q w.entries - 1 in
      let first : before q (without (is_party p) w.entries) + 1 ≤ before q w.entries = told_before q p w.entries apart told.marked there one (subst (λ x. IsMarkedFirst x.entries) (sym stood.seen) stood.laws.in_order) in
      let later : is_later_poll (standing_of w p) (Begin c i) ≡ true = ap (λ z. is_later_poll z (Begin c i)) told.pending ∙ ap (λ z. is_later_poll (outside Rest.Pending) (Begin z i)) is in
      let low : before q v.entries ≤ b = (along Steps accounts_after HoldsWell p i (Before q p apart i b) (λ z y. Before q p apart i b y) (λ x z y g s. keeps q p apart i b x (What.Go i) z y g s) known n w (beginning p c i) a v
      (λ z x s. (
      let gone : x.entries ≡ without (is_party p) w.entries = (s.at_once.listed later (marked_there p w.entries told.marked)).2 ∙ chosen (is_marked_at (is_party p) w.entries) (without (is_party p) w.entries) w.entries told.marked in
      let kept = effect_keeps q p apart i (before q w.entries) w x s.legal.one_change.effect s.legal.one_change.entries (record { low = omega arith; there = there }) in
      let on : Before q p apart i b x = record { low = omega (arith, ap (before q) gone, first); there = kept.there } in
      record { going = λ e. on; ended = λ e. on }
      )) ended runs).low in
      omega (arith, low, first)

-- ---- calls in turn

abbrev One : World → Type 0
One w = marked_count w.entries ≤ 1

abbrev IsPass : ℕ → World → ℕ → Call → Inputs → Answer → World → Type 0
IsPass = Passes IsWholeCall (λ w. w.entries) starved_in Holds

still_one : (w : World) (p : ℕ) (c : Call) (i : Inputs) (a : Answer) (v : World) → IsWholeCall w p c i a v → One w → One v
still_one w p c i a v whole one = along Steps accounts_after HoldsWell p i One (λ z y. One y) (λ x z y g s. (let on = one_told x y (going_on p i) z s g in record { going = λ e. on; ended = λ e. on })) (accounts_of w) whole.more w (beginning p c i) a v (λ z y s. (let on = one_told w y (beginning p c i) z s one in record { going = λ e. on; ended = λ e. on })) whole.ended whole.runs

began : (w : World) (p : ℕ) (c : Call) (i : Inputs) (a : Answer) (v : World) → IsWholeCall w p c i a v → Stands w
began w p c i a v whole = (first_of Steps accounts_after HoldsWell (accounts_of w) w (beginning p c i) _ (answers_of whole.more a) v whole.runs).2.did.stood

none_more : (q : ℕ) (w : World) (p : ℕ) (c : Call) (i : Inputs) (a : Answer) (v : World) → IsPass q w p c i a v → before q v.entries ≤ before q w.entries
none_more q w p c i a v by = never_more (accounts_of w) w q p by.another c i by.whole.more a v (began w p c i a v by.whole) by.whole.runs by.whole.ended by.listed

one_fewer : (q : ℕ) (w : World) (p : ℕ) (c : Call) (i : Inputs) (a : Answer) (v : World) → IsPass q w p c i a v → One w → (w.state.holder ≢ Some p) × (v.state.holder ≡ Some p) → before q v.entries + 1 ≤ before q w.entries
one_fewer q w p c i a v by one got =
    let runs = by.whole.runs in
    let promise : Promises w p c i a v = keeps_promise (accounts_of w) w p c i by.whole.more a v runs by.whole.ended in
    elim (cases_lt (before q v.entries) (before q w.entries)) as (λ _. before q v.entries + 1 ≤ before q w.entries) [
      | inl less ↦ omega (arith, less)
      | inr high ↦ absurd (promise.serves_starved.only_told (some_on w.state.starved q by.starved) got.0 (λ is told. (let less = fewer (accounts_of w) w q p by.another c i by.whole.more a v (began w p c i a v by.whole) runs by.whole.ended by.listed one is told in omega (arith, less, high))) got.1)
    ]

pub overtaken_seldom : (w : World) → IsSound w → IsOvertakenSeldom w
overtaken_seldom w sound q calls n v h = seldom IsWholeCall (λ y. y.entries) starved_in Holds One still_one none_more one_fewer q calls n w v sound.one_told h
