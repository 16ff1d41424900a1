-- A party that is starved for the turn is overtaken at most as often as entries stand before its own.
use Rattle.world_rwlock.proofs.Prelude.{◌≡◌, ◌≢◌, ℕ, ◌+◌, ◌-◌, ◌<◌, ◌≤◌, inl, inr, if◌then◌else◌, Bool, true, false, List, refl, sym, ap, ◌∙◌, subst, arith, Entry, marked_count, is_marked_at, IsMarkedFirst, is_party, entries_of, Answer, Call, Inputs, What, Begin, Rest, outside, Account, accounts_after, moves_of, answers_of, Effect, nothing, changes, does, beginning, along, first_of, last_of, Onward, Runs, HoldsWell, World, standing_of, HasTurn, Stands, Moved as Steps, IsSound, Change, ListName, for_the_turn, for_no_readers, for_no_writer, entries_after, accounts_of, IsWholeCall, Promises}
use Rattle.std.proofs.lemmas.Bool.{cases_lt}
use Rattle.lock_event.specs.Lists.{without}
use Rattle.world_base.proofs.Lists.{others}
use Rattle.world_base.proofs.Overtaking.{list_before, marked_there, told_before, some_on, seldom}
use Rattle.world_base.specs.Overtaking.{before, Passes}
use Rattle.world_rwlock.specs.Overtaking.{HasItsTurn, IsOvertakenSeldom}
use Rattle.world_rwlock.specs.State.{is_starved}
use Rattle.world_rwlock.proofs.laws.WorldLaws.{sound_now, keeps_promise}

-- ---- along a call of another party

module _ (q p : ℕ) (apart : p ≢ q) (i : Inputs) (bound : ℕ) where
  record Before (y : World) : Type 0 where
    pub low : before q y.turn_list ≤ bound
    pub there : 0 < entries_of q y.turn_list

  effect_keeps : (x v : World) (d : Effect Change ListName) → v.turn_list ≡ entries_after p d for_the_turn x.turn_list → Before x → Before v
  effect_keeps x v nothing e b = record { low = rw e b.low; there = rw e b.there }
  effect_keeps x v (changes c) e b = record { low = rw e b.low; there = rw e b.there }
  effect_keeps x v (does for_no_readers f) e b = record { low = rw e b.low; there = rw e b.there }
  effect_keeps x v (does for_no_writer f) e b = record { low = rw e b.low; there = rw e b.there }
  effect_keeps x v (does for_the_turn f) e b = record {
    low = omega (arith, ap (before q) e, list_before q p f x.turn_list apart b.there, b.low);
    there = omega (arith, ap (entries_of q) e, others p x.turn_list f q (λ h. apart (sym h)), b.there);
  }

  keeps : (x : World) (what : What) (a : Answer) (v : World) → Before x → Steps x (record { party = p; what = what }) a v → Onward Before (λ b y. Before y) a v
  keeps x what a v b s = let on = effect_keeps x v s.legal.one_change.effect (s.legal.one_change.lists for_the_turn) b in record { going = λ e. on; ended = λ e. on }

-- ---- a whole call

chosen : (b : Bool) (x y : List (Entry ℕ)) → b ≡ true → (if b then x else y) ≡ x
chosen true x y e = refl
chosen false x y e = absurd (cc e)

module _ (known : ℕ → Account) (w : World) (q p : ℕ) (apart : p ≢ q) (c : Call) (i : Inputs) (n : ℕ) (a : Answer) (v : World) (stood : Stands w) (runs : Runs known w (moves_of p c i n) (answers_of n a) v) (ended : a ≢ Answer.Stepped) (there : 0 < entries_of q w.turn_list) where
  never_more : before q v.turn_list ≤ before q w.turn_list
  never_more =
      let b = before q w.turn_list in
      (along Steps accounts_after HoldsWell p i (Before q p apart i b) (λ z y. Before q p apart i b y) (λ x z y g s. keeps q p apart i b x (What.Go i) z y g s) known n w (beginning p c i) a v
      (λ z x s. keeps q p apart i b w (Begin c i) z x (record { low = omega arith; there = there }) s) ended runs).low

  fewer : marked_count w.turn_list ≤ 1 → c ≡ Call.Poll → (standing_of w p ≡ outside Rest.Pending) × (is_marked_at (is_party p) w.turn_list ≡ true) → before q v.turn_list + 1 ≤ before q w.turn_list
  fewer one is told =
      let b = before q w.turn_list - 1 in
      let first : before q (without (is_party p) w.turn_list) + 1 ≤ before q w.turn_list = told_before q p w.turn_list apart told.1 there one (subst (λ x. IsMarkedFirst x.turn_list) (sym stood.seen) stood.laws.turn.in_order) in
      let polls : Begin c i ≡ Begin Call.Poll i = ap (λ z. Begin z i) is in
      let low : before q v.turn_list ≤ b = (along Steps accounts_after HoldsWell p i (Before q p apart i b) (λ z y. Before q p apart i b y) (λ x z y g s. keeps q p apart i b x (What.Go i) z y g s) known n w (beginning p c i) a v
      (λ z x s. (
      let gone : x.turn_list ≡ without (is_party p) w.turn_list = (s.at_once.listed_for_turn i polls told.0 (marked_there p w.turn_list told.1)).1 ∙ chosen (is_marked_at (is_party p) w.turn_list) (without (is_party p) w.turn_list) w.turn_list told.1 in
      let kept = effect_keeps q p apart i (before q w.turn_list) w x s.legal.one_change.effect (s.legal.one_change.lists for_the_turn) (record { low = omega arith; there = there }) in
      let on : Before q p apart i b x = record { low = omega (arith, ap (before q) gone, first); there = kept.there } in
      record { going = λ e. on; ended = λ e. on }
      )) ended runs).low in
      omega (arith, low, first)

-- ---- calls in turn

abbrev One : World → Type 0
One w = marked_count w.turn_list ≤ 1

abbrev IsPass : ℕ → World → ℕ → Call → Inputs → Answer → World → Type 0
IsPass = Passes IsWholeCall (λ w. w.turn_list) is_starved HasItsTurn

began : (w : World) (p : ℕ) (c : Call) (i : Inputs) (a : Answer) (v : World) → IsWholeCall w p c i a v → Stands w
began w p c i a v whole = (first_of Steps accounts_after HoldsWell (accounts_of w) w (beginning p c i) _ (answers_of whole.more a) v whole.runs).2.did.stood

still_one : (w : World) (p : ℕ) (c : Call) (i : Inputs) (a : Answer) (v : World) → IsWholeCall w p c i a v → One w → One v
still_one w p c i a v whole one = (sound_now v (last_of Steps accounts_after HoldsWell (accounts_of w) w p i whole.more (Begin c i) a v whole.runs).legal.did.stands).one_told for_the_turn

none_more : (q : ℕ) (w : World) (p : ℕ) (c : Call) (i : Inputs) (a : Answer) (v : World) → IsPass q w p c i a v → before q v.turn_list ≤ before q w.turn_list
none_more q w p c i a v by = never_more (accounts_of w) w q p by.another c i by.whole.more a v (began w p c i a v by.whole) by.whole.runs by.whole.ended by.listed

one_fewer : (q : ℕ) (w : World) (p : ℕ) (c : Call) (i : Inputs) (a : Answer) (v : World) → IsPass q w p c i a v → One w → (HasTurn w.state.turn p → ⊥) × HasTurn v.state.turn p → before q v.turn_list + 1 ≤ before q w.turn_list
one_fewer q w p c i a v by one got =
    let runs = by.whole.runs in
    let promise : Promises w p c i a v = keeps_promise (accounts_of w) w p c i by.whole.more a v runs by.whole.ended in
    elim (cases_lt (before q v.turn_list) (before q w.turn_list)) as (λ _. before q v.turn_list + 1 ≤ before q w.turn_list) [
      | inl less ↦ omega (arith, less)
      | inr high ↦ absurd (promise.only_told (some_on w.state.starved q by.starved) got.0 (λ is told. (let less = fewer (accounts_of w) w q p by.another c i by.whole.more a v (began w p c i a v by.whole) runs by.whole.ended by.listed one is told in omega (arith, less, high))) got.1)
    ]

pub overtaken_seldom : (w : World) → IsSound w → IsOvertakenSeldom w
overtaken_seldom w sound q calls n v h = seldom IsWholeCall (λ y. y.turn_list) is_starved HasItsTurn One still_one none_more one_fewer q calls n w v (sound.one_told for_the_turn) h
