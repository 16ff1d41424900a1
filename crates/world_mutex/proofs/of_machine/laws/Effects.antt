-- What an action does, in numbers.
use Rattle.world_mutex.proofs.Prelude.{◌≡◌, ℕ, ◌+◌, Bool, true, false, length, refl, ap, sym, ◌∙◌, marked_count, without, is_marked_at, is_party, Queue, joins, asks, leaves, notifies, chosen, counted_by, Action, Found, Done, Free, Held, SomeStarved, AtLimit, NoMemory, Yes, No, Word, bit, OnWord, word, CanDo, OnList, Tally, tally_of}
use Rattle.world_mutex.proofs.of_machine.laws.Steps.{OnTally, SameWord, SameList}

module _ (v w : Word) (s t : Queue) where
  abbrev before : Tally
  before = tally_of v s.entries

  abbrev behind : Tally
  behind = tally_of w t.entries

  word_kept : w ≡ v → SameWord before behind
  word_kept e = (ap (λ w. bit w.held) e, ap (λ w. w.starved) e, ap (λ w. w.limit) e)

  list_kept : t ≡ s → SameList before behind
  list_kept e = (ap (λ s. length s.entries) e, ap (λ s. marked_count s.entries) e)

  abbrev told : ℕ → Bool
  told p = is_marked_at (is_party p) s.entries

  held_is : (h : Bool) (n : ℕ) → w ≡ word h n v.limit → (bit w.held ≡ bit h) × (w.starved ≡ n) × (w.limit ≡ v.limit)
  held_is h n e = (ap (λ w. bit w.held) e, ap (λ w. w.starved) e, ap (λ w. w.limit) e)

  pub numbers : (p : ℕ) (memory : Bool) (a : Action) (f : Found) → OnWord a f v w → OnList p memory a f s t → CanDo p a v s → OnTally a f before behind
  numbers p memory Action.Nothing Done e l k = (word_kept e, list_kept l)
  numbers p memory Action.Nothing _ e l k = absurd e
  numbers p memory Action.Take Free e l k = let h = held_is true v.starved e.2 in (ap bit e.0, e.1, h.0, h.1, h.2, list_kept l)
  numbers p memory Action.Take (Held starving) e l k = (ap bit e.0, e.1, word_kept e.2, list_kept l)
  numbers p memory Action.Take SomeStarved e l k = (e.0, word_kept e.1, list_kept l)
  numbers p memory Action.Take _ e l k = absurd e
  numbers p memory Action.TakeAlone Free e l k = let h = held_is true v.starved e.2 in (ap bit e.0, e.1, h.0, h.1, h.2, list_kept l)
  numbers p memory Action.TakeAlone (Held starving) e l k = (ap bit e.0, word_kept e.1, list_kept l)
  numbers p memory Action.TakeAlone SomeStarved e l k = (ap bit e.0, e.1, word_kept e.2, list_kept l)
  numbers p memory Action.TakeAlone _ e l k = absurd e
  numbers p memory Action.Set Free e l k = let h = held_is true v.starved e.1 in (ap bit e.0, h.0, h.1, h.2, list_kept l)
  numbers p memory Action.Set (Held starving) e l k = (ap bit e.0, word_kept e.1, list_kept l)
  numbers p memory Action.Set _ e l k = absurd e
  numbers p memory Action.Count Done e l k = let h = held_is v.held (v.starved + 1) e.1 in (e.0, h.0, h.1, h.2, list_kept l)
  numbers p memory Action.Count AtLimit e l k = (e.0, word_kept e.1, list_kept l)
  numbers p memory Action.Count _ e l k = absurd e
  numbers p memory Action.Uncount Done e l k = let h = held_is v.held w.starved e.1 in (h.0, e.0, h.2, list_kept l)
  numbers p memory Action.Uncount _ e l k = absurd e
  numbers p memory Action.Clear Done e l k = let h = held_is false v.starved e.1 in (ap bit e.0, h.0, h.1, h.2, list_kept l)
  numbers p memory Action.Clear _ e l k = absurd e
  numbers p memory Action.Join Done e l k = (word_kept e, counted_by p s.entries t.entries joins (told p) refl tt (ap (λ q. q.entries) l.1))
  numbers p memory Action.Join NoMemory e l k = (word_kept e, list_kept l.1)
  numbers p memory Action.Join _ e l k = absurd e
  numbers p memory Action.Ask Yes e l k = (word_kept e, counted_by p s.entries t.entries asks true l.0 k.1 (ap (λ q. q.entries) l.1 ∙ sym (chosen (told p) (without (is_party p) s.entries) s.entries l.0)))
  numbers p memory Action.Ask No e l k = (word_kept e, list_kept l.1)
  numbers p memory Action.Ask _ e l k = absurd e
  numbers p memory Action.Leave Done e l k = (word_kept e, counted_by p s.entries t.entries leaves (told p) refl k.1 (ap (λ q. q.entries) l))
  numbers p memory Action.Leave _ e l k = absurd e
  numbers p memory Action.Notify Done e l k = (word_kept e, counted_by p s.entries t.entries (notifies 1) (told p) refl tt (ap (λ q. q.entries) l))
  numbers p memory Action.Notify _ e l k = absurd e

-- no action moves the limit
pub limit_kept : (p : ℕ) (memory : Bool) (a : Action) (f : Found) (v w : Word) → OnWord a f v w → w.limit ≡ v.limit
limit_kept p memory Action.Nothing Done v w e = ap (λ w. w.limit) e
limit_kept p memory Action.Nothing _ v w e = absurd e
limit_kept p memory Action.Take Free v w e = ap (λ w. w.limit) e.2
limit_kept p memory Action.Take (Held b) v w e = ap (λ w. w.limit) e.2
limit_kept p memory Action.Take SomeStarved v w e = ap (λ w. w.limit) e.1
limit_kept p memory Action.Take _ v w e = absurd e
limit_kept p memory Action.TakeAlone Free v w e = ap (λ w. w.limit) e.2
limit_kept p memory Action.TakeAlone (Held b) v w e = ap (λ w. w.limit) e.1
limit_kept p memory Action.TakeAlone SomeStarved v w e = ap (λ w. w.limit) e.2
limit_kept p memory Action.TakeAlone _ v w e = absurd e
limit_kept p memory Action.Set Free v w e = ap (λ w. w.limit) e.1
limit_kept p memory Action.Set (Held b) v w e = ap (λ w. w.limit) e.1
limit_kept p memory Action.Set _ v w e = absurd e
limit_kept p memory Action.Count Done v w e = ap (λ w. w.limit) e.1
limit_kept p memory Action.Count AtLimit v w e = ap (λ w. w.limit) e.1
limit_kept p memory Action.Count _ v w e = absurd e
limit_kept p memory Action.Uncount Done v w e = ap (λ w. w.limit) e.1
limit_kept p memory Action.Uncount _ v w e = absurd e
limit_kept p memory Action.Clear Done v w e = ap (λ w. w.limit) e.1
limit_kept p memory Action.Clear _ v w e = absurd e
limit_kept p memory Action.Join Done v w e = ap (λ w. w.limit) e
limit_kept p memory Action.Join NoMemory v w e = ap (λ w. w.limit) e
limit_kept p memory Action.Join _ v w e = absurd e
limit_kept p memory Action.Ask Yes v w e = ap (λ w. w.limit) e
limit_kept p memory Action.Ask No v w e = ap (λ w. w.limit) e
limit_kept p memory Action.Ask _ v w e = absurd e
limit_kept p memory Action.Leave Done v w e = ap (λ w. w.limit) e
limit_kept p memory Action.Leave _ v w e = absurd e
limit_kept p memory Action.Notify Done v w e = ap (λ w. w.limit) e
limit_kept p memory Action.Notify _ v w e = absurd e
