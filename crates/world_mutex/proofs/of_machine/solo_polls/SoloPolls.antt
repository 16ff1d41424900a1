-- Polls in a row, each carried out alone while the lock is free.
use Rattle.world_mutex.proofs.Prelude.{◌≡◌, ◌≢◌, ℕ, zero, suc, ◌+◌, ◌-◌, ◌<◌, ◌≤◌, ◌⊎◌, inl, inr, Bool, true, IsSomeAnd, List, [], ◌∷◌, length, refl, sym, ap, arith, subst, ◌∙◌, ℕ_discrete, sum_by, sum_by-cons, nat_tests, Entry, Waiting, Notified, entry, joined, notified, without, marked_count, mark_waiting, is_party, entries_of, Refusal, is_there, some_listed, joined_unmarked, is_marked_at, false, Place, Out, Holding, Ask, AskStarved, LockCall, Next, End, Got, Pending, Refused, start_of, holds, counted, listed, is_resting, is_waiting, Lock, place_at, Acts, IsMutex, IsAtRest, IsStarved, holders, starved, GoesOnAlone, last, step, PollsAlone, at_once, begun, IsCalled, unstarved, unstarved_listed, Took, GaveWay, PollsInTurn, SoloPolls}
use Rattle.lock_event.specs.declared.event.Mark.{Mark}
use Rattle.lock_event.proofs.Marks.{length-mark_waiting}
use Rattle.lock_event.proofs.Counts.{length-joined, length-without, marked_count-notified}
use Rattle.lock_event.proofs.Marks.{marked_count-joined}
use Rattle.world_mutex.proofs.of_machine.solo_polls.Marked.{same_marks}
use Rattle.world_base.proofs.of_queue.Rekeyed.{entries_of-joined, entries_of-mark_waiting, entries_of-without_own, entries_of-without_other}
use Rattle.world_base.proofs.of_queue.Queues.{own_one, other_one}
pub use Rattle.world_base.proofs.Bounds.{first_marked}
use Rattle.world_base.proofs.of_table.Resting.{one_at_rest}
use Rattle.world_mutex.proofs.of_machine.solo_polls.Solo.{Reached, Gives, Ends, polls_unstarved, polls_starved, polls_free}

-- ---- Sums over the entries of a list, by their parties

abbrev keyed : (ℕ → ℕ) → List (Entry ℕ) → ℕ
keyed f [] = 0
keyed f (e ∷ es) = f e.key + keyed f es

keyed_is : (f : ℕ → ℕ) (l : List (Entry ℕ)) → sum_by (λ e. f e.key) l ≡ keyed f l
keyed_is f [] = refl
keyed_is f (e ∷ es) = sum_by-cons (λ e. f e.key) e es ∙ ap (λ n. f e.key + n) (keyed_is f es)

keyed-mark_waiting : (f : ℕ → ℕ) (m : Mark) (n : ℕ) (l : List (Entry ℕ)) → keyed f (mark_waiting m n l) ≡ keyed f l
keyed-mark_waiting f m n [] = refl
keyed-mark_waiting f m n (e ∷ es) = grind (arith, keyed-mark_waiting f m n es, keyed-mark_waiting f m (n - 1) es)

keyed-joined : (f : ℕ → ℕ) (p : ℕ) (l : List (Entry ℕ)) → keyed f (joined l p) ≡ keyed f l + f p
keyed-joined f p [] = omega arith
keyed-joined f p (e ∷ es) = grind (arith, keyed-joined f p es)

keyed-without : (f : ℕ → ℕ) (p : ℕ) (l : List (Entry ℕ)) → 0 < entries_of p l → keyed f (without (is_party p) l) + f p ≡ keyed f l
keyed-without f p [] h = absurd (omega arith)
keyed-without f p (e ∷ es) h = grind (arith, nat_tests, keyed-without f p es)

keyed-apart : (f g : ℕ → ℕ) (p : ℕ) → ((k : ℕ) → k ≢ p → g k ≡ f k) → (l : List (Entry ℕ)) → entries_of p l ≡ 0 → keyed g l ≡ keyed f l
keyed-apart f g p same [] h = refl
keyed-apart f g p same (e ∷ es) h = grind (arith, nat_tests, keyed-apart f g p same es, same e.key)

keyed_most : (f : ℕ → ℕ) → ((k : ℕ) → f k ≤ 1) → (l : List (Entry ℕ)) → keyed f l ≤ length l
keyed_most f one [] = omega arith
keyed_most f one (e ∷ es) = omega (arith, one e.key, keyed_most f one es)

keyed_less : (f : ℕ → ℕ) (q : ℕ) → ((k : ℕ) → f k ≤ 1) → f q ≡ 0 → (l : List (Entry ℕ)) → 0 < entries_of q l → keyed f l < length l
keyed_less f q one none [] h = absurd (omega arith)
keyed_less f q one none (e ∷ es) h = grind (arith, nat_tests, one e.key, keyed_most f one es, keyed_less f q one none es)

-- ---- One poll

-- a party whose place is this waits in the list
waiting_at : (x : Place) → is_waiting x ≡ true → (x ≡ Ask) ⊎ (x ≡ AskStarved)
waiting_at Ask h = inl refl
waiting_at AskStarved h = inr refl
waiting_at _ h = absurd (cc)

known_party : (ps : List Place) (p : ℕ) → is_waiting (place_at ps p) ≡ true → p < length ps
known_party [] p h = absurd (cc)
known_party (x ∷ xs) zero h = omega arith
known_party (x ∷ xs) (suc p) h = let more : p < length xs = known_party xs p h in omega arith

begins_here : (memory : Bool) (p : ℕ) (x : Place) (n : Next) (old mid : Lock) → is_waiting x ≡ true → IsSomeAnd (start_of LockCall.Poll x) (λ from. Acts memory p from n old mid) → Acts memory p x n old mid
begins_here memory p Ask n old mid h a = a
begins_here memory p AskStarved n old mid h a = a
begins_here memory p _ n old mid h a = absurd (cc)

-- the poll of a pending party goes on where it stands
goes_on_here : (memory : Bool) (p : ℕ) (e : End) (new l : Lock) → is_waiting (place_at l.places p) ≡ true → PollsAlone memory p e new l → GoesOnAlone memory p e new l
goes_on_here memory p e new l h (at_once old a) = last l (begins_here memory p (place_at l.places p) (Next.End e) l new h a)
goes_on_here memory p e new l h (begun old mid a to acts on) = step l mid a to (begins_here memory p (place_at l.places p) (Next.Do a to) l mid h acts) on

abbrev Owned : Lock → Type 0
Owned l = (q : ℕ) → entries_of q l.entries ≡ listed (place_at l.places q)

module _ (p : ℕ) (l new : Lock) (own : entries_of p l.entries ≡ 1) where
  abbrev gone : List (Entry ℕ)
  gone = without (is_party p) l.entries

  abbrev told : List (Entry ℕ) → List (Entry ℕ)
  told es = notified es 1

  told_length : (es : List (Entry ℕ)) → length (told es) ≡ length es
  told_length es = length-mark_waiting Notified (1 - marked_count es) es

  told_keyed : (f : ℕ → ℕ) (es : List (Entry ℕ)) → keyed f (told es) ≡ keyed f es
  told_keyed f es = keyed-mark_waiting f Notified (1 - marked_count es) es

  told_entries : (q : ℕ) (es : List (Entry ℕ)) → entries_of q (told es) ≡ entries_of q es
  told_entries q es = entries_of-mark_waiting q Notified (1 - marked_count es) es

  gone_length : length gone + 1 ≡ length l.entries
  gone_length = length-without (is_party p) l.entries (is_there p l.entries (omega arith))

  none_of_it : entries_of p gone ≡ 0
  none_of_it = let one : entries_of p gone + 1 ≡ entries_of p l.entries = entries_of-without_own p l.entries (omega arith) in omega arith

  -- the entries of the others count as before
  gone_keyed : (x y : Place) → place_at l.places p ≡ y → Reached p l x new → keyed (unstarved new) gone + (1 - counted y) ≡ unstarved_listed l
  gone_keyed x y here r =
      let same : keyed (unstarved new) gone ≡ keyed (unstarved l) gone = keyed-apart (unstarved l) (unstarved new) p (λ k apart. ap (λ z. 1 - counted z) (r.others k apart)) gone none_of_it in
      let all : keyed (unstarved l) gone + unstarved l p ≡ keyed (unstarved l) l.entries = keyed-without (unstarved l) p l.entries (omega arith) in
      let mine : unstarved l p ≡ 1 - counted y = ap (λ z. 1 - counted z) here in
      let sum : unstarved_listed l ≡ keyed (unstarved l) l.entries = keyed_is (unstarved l) l.entries in
      omega arith

  abbrev back : List (Entry ℕ)
  back = told (joined (told gone) p)

  back_keyed : (x : Place) → Reached p l x new → counted x ≡ 1 → keyed (unstarved new) back ≡ keyed (unstarved new) gone
  back_keyed x r starving =
      let mine : unstarved new p ≡ 1 - counted x = ap (λ z. 1 - counted z) r.here in
      omega (arith, told_keyed (unstarved new) (joined (told gone) p), keyed-joined (unstarved new) p (told gone), told_keyed (unstarved new) gone)

  back_length : length back ≡ length l.entries
  back_length = omega (arith, told_length (joined (told gone) p), length-joined (told gone) p, told_length gone, gone_length)

  module _ (open_lock : holders l ≡ 0) (here : place_at l.places p ≡ Ask) (out : holds (place_at l.places p) ≡ 0) (counts_not : counted (place_at l.places p) ≡ 0) where
    gave : (e : End) → 0 < starved l → Gives true p l open_lock out e new refl counts_not e (told gone) → GaveWay p l e new
    gave Pending some g =
        let sum : unstarved_listed new ≡ keyed (unstarved new) new.entries = keyed_is (unstarved new) new.entries in
        let now : keyed (unstarved new) new.entries ≡ keyed (unstarved new) back = ap (keyed (unstarved new)) g.0 in
        record {
          unstarved_here = here;
          starved_there = some;
          stands_back = (g.1.here, ap length g.0 ∙ back_length);
          others = g.1.others;
          free = omega (arith, g.1.sums holds);
          notified = λ many. rw g.0 (marked_count-notified (joined (told gone) p) (omega (arith, length-joined (told gone) p)));
          fewer = omega (arith, back_keyed AskStarved g.1 refl, gone_keyed AskStarved Ask here g.1);
        }
    gave (Refused Refusal.Starved) some g =
        let sum : unstarved_listed new ≡ keyed (unstarved new) new.entries = keyed_is (unstarved new) new.entries in
        let now : keyed (unstarved new) new.entries ≡ keyed (unstarved new) (told (told gone)) = ap (keyed (unstarved new)) g.0 in
        let size : length new.entries ≡ length gone = ap length g.0 ∙ (told_length (told gone) ∙ told_length gone) in
        record {
          unstarved_here = here;
          starved_there = some;
          stands_back = (g.1.here, omega (arith, gone_length), g.2);
          others = g.1.others;
          free = omega (arith, g.1.sums holds);
          notified = λ many. rw g.0 (marked_count-notified (told gone) (omega (arith, told_length gone)));
          fewer = omega (arith, told_keyed (unstarved new) (told gone), told_keyed (unstarved new) gone, gone_keyed Out Ask here g.1);
        }
    gave _ some g = absurd g

    back_entries : (q : ℕ) → entries_of q back ≡ entries_of q (entry p Waiting ∷ told gone)
    back_entries q = told_entries q (joined (told gone) p) ∙ entries_of-joined q p (told gone)

    owned_by : (x : Place) (es : List (Entry ℕ)) → Owned l → Reached p l x new → new.entries ≡ es → entries_of p es ≡ listed x
        → ((q : ℕ) → q ≢ p → entries_of q es ≡ entries_of q l.entries) → Owned new
    owned_by x es owned r is mine apart =
        λ q. elim (ℕ_discrete q p) as (λ _. entries_of q new.entries ≡ listed (place_at new.places q)) [
          | yes same ↦ (let P : ℕ → Type 0 = λ k. entries_of k new.entries ≡ listed (place_at new.places k) in
              subst P (sym same) (ap (entries_of p) is ∙ (mine ∙ sym (ap listed r.here))))
          | no other ↦ ap (entries_of q) is ∙ (apart q other ∙ (owned q ∙ sym (ap listed (r.others q other))))
        ]

    -- each listed party has its one entry then too
    still_owned : (e : End) → Owned l → Gives true p l open_lock out e new refl counts_not e (told gone) → Owned new
    still_owned Pending owned g =
        owned_by AskStarved back owned g.1 g.0
        (back_entries p ∙ (own_one p (told gone) ∙ (ap (λ n. 1 + n) (told_entries p gone) ∙ ap (λ n. 1 + n) none_of_it)))
        (λ q apart. back_entries q ∙ (other_one q p (told gone) apart ∙ (told_entries q gone ∙ entries_of-without_other q p l.entries apart)))
    still_owned (Refused Refusal.Starved) owned g =
        owned_by Out (told (told gone)) owned g.1 g.0
        (told_entries p (told gone) ∙ (told_entries p gone ∙ none_of_it))
        (λ q apart. told_entries q (told gone) ∙ (told_entries q gone ∙ entries_of-without_other q p l.entries apart))
    still_owned _ owned g = absurd g

-- a starved party that rests is listed
rests_so : (x : Place) → is_resting x ≡ true → (counted x ≡ 0) ⊎ ((counted x ≡ 1) × (listed x ≡ 1))
rests_so Out h = inl refl
rests_so Holding h = inl refl
rests_so Ask h = inl refl
rests_so AskStarved h = inr (refl, refl)
rests_so _ h = absurd (cc)

abbrev ListedStarved : List Place → Type 0
ListedStarved ps = (q : ℕ) × (counted (place_at ps q) ≡ 1) × (listed (place_at ps q) ≡ 1)

one_more : (x : Place) (xs : List Place) → 0 < sum_by counted (x ∷ xs) → (0 < sum_by counted xs → ListedStarved xs) → (counted x ≡ 0) ⊎ ((counted x ≡ 1) × (listed x ≡ 1)) → ListedStarved (x ∷ xs)
one_more x xs some more (inl none) = let found = more (omega (arith, sum_by-cons counted x xs)) in (suc found.0, found.1, found.2)
one_more x xs some more (inr here) = (0, here.0, here.1)

listed_starved : (ps : List Place) → IsAtRest ps → 0 < sum_by counted ps → ListedStarved ps
listed_starved [] rest some = absurd (omega arith)
listed_starved (x ∷ xs) rest some = one_more x xs some (listed_starved xs rest.1) (rests_so x rest.0)

-- a party that waits stands in the list
listed_waiting : (x : Place) → is_waiting x ≡ true → listed x ≡ 1
listed_waiting Ask h = refl
listed_waiting AskStarved h = refl
listed_waiting _ h = absurd (cc)

-- a poll takes the lock or gives way
module _ (l : Lock) (owned : Owned l) (open_lock : holders l ≡ 0) (p : ℕ) (e : End) (new : Lock) (called : IsCalled l p) (polls : PollsAlone true p e new l) where
  -- it took the lock past starved parties, and was the first in the list though it had joined last
  abbrev Last : Type 0
  Last = is_marked_at (is_party p) (notified (joined (notified (without (is_party p) l.entries) 1) p) 1) ≡ true

  -- it takes it where nobody else is starved, where it is starved itself, or where it was the last
  abbrev Why : Type 0
  Why = (starved l ≡ 0) ⊎ (IsStarved l p ⊎ Last)

  why : (starved l ≡ 0) ⊎ Last → Why
  why (inl none) = inl none
  why (inr end) = inr (inr end)

  outcome : (own : entries_of p l.entries ≡ 1) (here : place_at l.places p ≡ Ask) (out : holds (place_at l.places p) ≡ 0) (counts_not : counted (place_at l.places p) ≡ 0)
      → Ends true p l open_lock out e new refl counts_not (without (is_party p) l.entries) → (Took p e new × Why) ⊎ (GaveWay p l e new × Owned new)
  outcome own here out counts_not (inl took) = inl (took.0, why took.1)
  outcome own here out counts_not (inr gives) =
      inr (gave p l new own open_lock here out counts_not e gives.0 gives.1, still_owned p l new own open_lock here out counts_not e owned gives.1)

  by_place : (place_at l.places p ≡ Ask) ⊎ (place_at l.places p ≡ AskStarved) → (Took p e new × Why) ⊎ (GaveWay p l e new × Owned new)
  by_place (inl here) =
      let out : holds (place_at l.places p) ≡ 0 = ap holds here in
      let counts_not : counted (place_at l.places p) ≡ 0 = ap counted here in
      outcome (owned p ∙ ap listed here) here out counts_not
      (polls_unstarved true p l open_lock out e new refl counts_not (known_party l.places p called.0) here called.1 (goes_on_here true p e new l called.0 polls))
  by_place (inr here) =
      let out : holds (place_at l.places p) ≡ 0 = ap holds here in
      inl (polls_starved true p l open_lock out e new (known_party l.places p called.0) here called.1 (goes_on_here true p e new l called.0 polls), inr (inl (ap counted here)))

  either_why : (Took p e new × Why) ⊎ (GaveWay p l e new × Owned new)
  either_why = by_place (waiting_at (place_at l.places p) called.0)

  without_why : (Took p e new × Why) ⊎ (GaveWay p l e new × Owned new) → Took p e new ⊎ (GaveWay p l e new × Owned new)
  without_why (inl took) = inl took.0
  without_why (inr gives) = inr gives

  either : Took p e new ⊎ (GaveWay p l e new × Owned new)
  either = without_why either_why

  takes_or_gives : Took p e new ⊎ (GaveWay p l e new × Owned new) → Took p e new ⊎ GaveWay p l e new
  takes_or_gives (inl took) = inl took
  takes_or_gives (inr gives) = inr gives.0

  -- where another stands in the list, it isn't the last: the notification that it handed on is there
  not_last : (q : ℕ) → q ≢ p → 0 < entries_of q l.entries → Last → ⊥
  not_last q apart there end =
      let gone = without (is_party p) l.entries in
      let told = notified gone 1 in
      let mine : entries_of p told ≡ 0 = entries_of-mark_waiting p Notified (1 - marked_count gone) gone ∙ none_of_it p l new (owned p ∙ listed_waiting (place_at l.places p) called.0) in
      let other : entries_of q gone ≡ entries_of q l.entries = entries_of-without_other q p l.entries apart in
      let many : 0 < length gone = some_listed q gone (omega (arith, other, there)) in
      let marked : 0 < marked_count (joined told p) = omega (arith, marked_count-notified gone many, marked_count-joined told p) in
      let quiet : is_marked_at (is_party p) (notified (joined told p) 1) ≡ false = ap (is_marked_at (is_party p)) (same_marks (joined told p) marked) ∙ joined_unmarked p told mine in
      absurd (cc (end, quiet))

  -- so at rest one that isn't starved gives way beside one that is
  gives_way : IsAtRest l.places → counted (place_at l.places p) ≡ 0 → 0 < starved l → (Took p e new × Why) ⊎ (GaveWay p l e new × Owned new) → GaveWay p l e new
  gives_way rest plain some (inr gives) = gives.0
  gives_way rest plain some (inl (took, inl none)) = absurd (omega (arith, some, none))
  gives_way rest plain some (inl (took, inr (inl starving))) = absurd (omega (arith, plain, starving))
  gives_way rest plain some (inl (took, inr (inr end))) =
      let other = listed_starved l.places rest some in
      absurd (not_last other.0 (λ is. (let mine : counted (place_at l.places p) ≡ 1 = ap (λ k. counted (place_at l.places k)) (sym is) ∙ other.1 in omega (arith, mine, plain))) (omega (arith, owned other.0, other.2)) end)

-- a starved party gives way to nobody, and nobody gives way where none is starved; and neither needs memory
module _ (l : Lock) (open_lock : holders l ≡ 0) (memory : Bool) (p : ℕ) (e : End) (new : Lock) (called : IsCalled l p) (polls : PollsAlone memory p e new l) where
  take_by : (place_at l.places p ≡ Ask) ⊎ (place_at l.places p ≡ AskStarved) → IsStarved l p ⊎ (starved l ≡ 0) → Took p e new
  take_by (inl here) (inl starving) = let not_so : counted (place_at l.places p) ≡ 0 = ap counted here in absurd (omega arith)
  take_by (inl here) (inr none) = polls_free memory p l open_lock (ap holds here) e new (ap counted here) none (known_party l.places p called.0) here called.1 (goes_on_here memory p e new l called.0 polls)
  take_by (inr here) why = polls_starved memory p l open_lock (ap holds here) e new (known_party l.places p called.0) here called.1 (goes_on_here memory p e new l called.0 polls)

  must_take : IsStarved l p ⊎ (starved l ≡ 0) → Took p e new
  must_take = take_by (waiting_at (place_at l.places p) called.0)

-- ---- Polls in a row

-- a poll that gave way leaves one unstarved entry less
gave_one : (n p : ℕ) (e : End) (l mid : Lock) → (e ≢ Got) → (Owned mid → holders mid ≡ 0 → n ≤ unstarved_listed mid) → Took p e mid ⊎ (GaveWay p l e mid × Owned mid) → (suc n ≤ unstarved_listed l) × (0 < starved l)
gave_one n p e l mid not_got more (inl took) = absurd (not_got took.0)
gave_one n p e l mid not_got more (inr gives) =
    let most : n ≤ unstarved_listed mid = more gives.1 gives.0.free in
    let less : unstarved_listed mid + 1 ≡ unstarved_listed l = gives.0.fewer in
    (omega arith, gives.0.starved_there)

in_turn : (n : ℕ) (l new : Lock) → Owned l → holders l ≡ 0 → PollsInTurn n l new → n ≤ unstarved_listed l
in_turn zero l new owned open_lock t = omega arith
in_turn (suc n) l new owned open_lock t =
    (gave_one n t.0 t.1 l t.2 t.4 (λ owned_then open_then. in_turn n t.2 new owned_then open_then t.6) (either l owned open_lock t.0 t.1 t.2 t.3 t.5)).0

-- ---- At rest

at_most_one : (l : Lock) (k : ℕ) → unstarved l k ≤ 1
at_most_one l k = omega arith

module _ (l : Lock) (mutex : IsMutex l) (open_lock : holders l ≡ 0) where
  some_starved : IsAtRest l.places → 0 < starved l → unstarved_listed l < length l.entries
  some_starved rest some =
      let found = listed_starved l.places rest some in
      let there : 0 < entries_of found.0 l.entries = omega (arith, mutex.owners found.0, found.2) in
      let less : keyed (unstarved l) l.entries < length l.entries = keyed_less (unstarved l) found.0 (at_most_one l) (omega (arith, found.1)) l.entries there in
      omega (arith, keyed_is (unstarved l) l.entries)

  fewer_than_listed : IsAtRest l.places → 0 < length l.entries → (n : ℕ) (new : Lock) → PollsInTurn n l new → n < length l.entries
  fewer_than_listed rest some zero new t = some
  fewer_than_listed rest some (suc n) new t =
      let gave = gave_one n t.0 t.1 l t.2 t.4 (λ owned open_then. in_turn n t.2 new owned open_then t.6) (either l mutex.owners open_lock t.0 t.1 t.2 t.3 t.5) in
      let less : unstarved_listed l < length l.entries = some_starved rest gave.1 in
      omega (arith, gave.0)

-- a listed party that rests is pending
pending_at : (x : Place) → is_resting x ≡ true → 0 < listed x → is_waiting x ≡ true
pending_at Out h there = absurd (omega arith)
pending_at Holding h there = absurd (omega arith)
pending_at Ask h there = refl
pending_at AskStarved h there = refl
pending_at _ h there = absurd (cc)

-- what polls do that are carried out alone while the lock is free
pub solo_polls : (l : Lock) → IsMutex l → holders l ≡ 0 → SoloPolls l
solo_polls l mutex open_lock = record {
  takes_or_gives_way = λ p e new called polls. takes_or_gives l mutex.owners open_lock p e new called polls (either l mutex.owners open_lock p e new called polls);
  takes = λ memory p e new called why polls. must_take l open_lock memory p e new called polls why;
  some_called = λ rest some.
      let found = first_marked l.entries mutex.in_order (mutex.wakes rest open_lock some) in
      let there : 0 < listed (place_at l.places found.0) = omega (arith, mutex.owners found.0, found.2) in
      (found.0, (pending_at (place_at l.places found.0) (one_at_rest is_resting Out refl l.places rest found.0) there, found.1));
  one_takes = fewer_than_listed l mutex open_lock;
  behind = λ rest p e new called plain some polls. gives_way l mutex.owners open_lock p e new called polls rest plain some (either_why l mutex.owners open_lock p e new called polls);
}
