-- An action of one party keeps what always holds of a semaphore.
use Rattle.world_semaphore.proofs.Prelude.{◌≡◌, ◌≢◌, ℕ, ◌+◌, ◌<◌, ◌≤◌, ◌⊎◌, inl, inr, Bool, true, false, List, length, get_or, Some, None, ◌==◌, refl, arith, ap, sym, subst, ◌∙◌, length-set, get_or-set_same, get_or-set_other, set, ℕ_discrete, sum_by, get_or_default, sum_by-set, get_or-le-sum_by, nat_tests, Entry, is_wanted, entries_of, WeightedQueue, weighted_queue, weight_in, What, Rest, Stage, Within, some_eq, call_at, polls_again, stage_after, Keeps, Action, Found, Done, Left, Short, Available, PastLimit, NoMemory, Yes, No, Place, Take, Retake, Join, Ask, Remove, Load, HandOn, PassOn, RefuseFit, Try, Lower, GiveBack, Raise, GiveAdded, FitAdded, CancelRemove, CancelLoad, FitGivenBack, Abandon, Position, Out, Waiting, At, Words, place_for, action_of, next_of, position_after, Seat, bit, pays, seat_of, seated, permits_of, permits_at, under_way_at, listed, waits_for, waits, owes, size_at, is_short_at, is_short, Effect, CanDo, Finds, effect_of, words_after, entries_after, weights_after, fits as fits_so, does, changes, nothing, joins, asks, removes, Tally, tally_of, counts_of, Semaphore, IsKept, knows, goes_with, answer_by, runs, position_at, sizes_of}
use Rattle.world_base.proofs.Owing.{some_term}
use Rattle.world_semaphore.specs.machine.Seats.{size_of}
use Rattle.world_semaphore.specs.machine.Tally.{IsSound}
use Rattle.world_semaphore.specs.machine.Machine.{Stands}
use Rattle.world_semaphore.proofs.of_machine.laws.Steps.{Goes}
use Rattle.world_semaphore.proofs.of_machine.laws.Effects.{numbers}
use Rattle.world_semaphore.proofs.of_machine.laws.Entries.{CanOf, own, others, wanted_so, fitted-agree}
use Rattle.world_semaphore.proofs.of_machine.laws.Kept.{after, kept}
use Rattle.world_semaphore.proofs.of_machine.laws.CanDo.{can_do}
use Rattle.world_semaphore.proofs.of_machine.stages.Turns.{Fits, fits, lands}
use Rattle.world_semaphore.proofs.of_machine.stages.Taking.{taken}

-- a party that waits for so many stands in the list for them
so_many : (s k : ℕ) → 0 < bit (k == s) → k ≡ s
so_many s k some = grind (arith, nat_tests)

waits_there : (s : ℕ) (x : Position) → 0 < waits s x → (listed x ≡ 1) × (size_at x ≡ s)
waits_there s (Waiting k) some = (refl, so_many s k some)
waits_there s (At (Retake k)) some = (refl, so_many s k some)
waits_there s (At (Ask k told)) some = (refl, so_many s k some)
waits_there s (At (PassOn k a)) some = (refl, so_many s k some)
waits_there s (At _) some = absurd (omega arith)
waits_there s _ some = absurd (omega arith)

pub one_listed : (x : Position) → listed x ≤ 1
one_listed (Waiting k) = omega arith
one_listed (At (Take k true told)) = omega arith
one_listed (At (Take k false told)) = omega arith
one_listed (At _) = omega arith
one_listed _ = omega arith

-- ---- the size of who found too few

-- who has found too few then wants some, or did before and wants as many
abbrev ShortBy : Place → Position → Type 0
ShortBy x y = is_short y ≡ true → (0 < size_at y) ⊎ ((is_short_at x ≡ true) × (size_at y ≡ size_of x))

module _ (memory : Bool) (p : ℕ) (w : Words) (l : List (Entry ℕ)) where
  short_by : (x : Place) (f : Found) → Finds memory p (action_of x) f w l → ShortBy x (after x f)
  short_by (Take k true told) (Left a) e h = inr (refl, refl)
  short_by (Take k true told) (Short a) e h = inr (refl, refl)
  short_by (Take k false true) (Left a) e h = taken (λ n. ShortBy (Take k false true) (position_after n)) k a (λ h. absurd (cc h)) (λ none h. absurd (cc h)) h
  short_by (Take k false false) (Left a) e h = absurd (cc h)
  short_by (Take k false told) (Short a) e h = inl (let few = e.1 in omega (arith, few))
  short_by (Take k there told) _ e h = absurd e
  short_by (Retake k) (Left a) e h = inr (refl, refl)
  short_by (Retake k) (Short a) e h = inr (refl, refl)
  short_by (Retake k) _ e h = absurd e
  short_by (Join k told) Done e h = inr (refl, refl)
  short_by (Join k (Some a)) NoMemory e h = absurd (cc h)
  short_by (Join k None) NoMemory e h = absurd (cc h)
  short_by (Join k told) _ e h = absurd e
  short_by (Ask k told) Yes e h = absurd (cc h)
  short_by (Ask k (Some a)) No e h = inr (refl, refl)
  short_by (Ask k None) No e h = inr (refl, refl)
  short_by (Ask k told) _ e h = absurd e
  short_by (Remove k more) Yes e h = absurd (cc h)
  short_by (Remove k (Some a)) No e h = absurd (cc h)
  short_by (Remove k None) No e h = absurd (cc h)
  short_by (Remove k more) _ e h = absurd e
  short_by (PassOn k a) f e h = inr (refl, refl)
  short_by (Try k) (Left a) e h = absurd (cc h)
  short_by (Try k) (Short a) e h = absurd (cc h)
  short_by (Try k) _ e h = absurd e
  short_by (Raise n) Done e h = absurd (cc h)
  short_by (Raise n) PastLimit e h = absurd (cc h)
  short_by (Raise n) _ e h = absurd e
  short_by CancelRemove Yes e h = absurd (cc h)
  short_by CancelRemove No e h = absurd (cc h)
  short_by CancelRemove _ e h = absurd e
  short_by (Load k) f e h = absurd (cc h)
  short_by (HandOn k a) f e h = absurd (cc h)
  short_by (RefuseFit k a) f e h = absurd (cc h)
  short_by (Lower k) f e h = absurd (cc h)
  short_by (GiveBack k) f e h = absurd (cc h)
  short_by (GiveAdded n) f e h = absurd (cc h)
  short_by (FitAdded a) f e h = absurd (cc h)
  short_by CancelLoad f e h = absurd (cc h)
  short_by (FitGivenBack a) f e h = absurd (cc h)
  short_by Abandon f e h = absurd (cc h)

-- ---- the weight of who is listed

-- the weights then, and where a party then stands in the list, its weight is its size
abbrev WeighsBy : ℕ → List ℕ → Place → Found → Position → Type 0
WeighsBy p ws x f y = listed y ≡ 1 → weight_in (weights_after p (action_of x) f ws) p ≡ size_at y

module _ (p : ℕ) (ws : List ℕ) (known : p < length ws) where
  weighs_by : (x : Place) (f : Found) → ((seat_of x).listed ≡ 1 → is_short_at x ≡ true → weight_in ws p ≡ size_of x) → WeighsBy p ws x f (after x f)
  weighs_by (Join k told) Done was h = get_or-set_same ws p k 0 known
  weighs_by (Join k (Some a)) _ was h = absurd (omega (arith, h))
  weighs_by (Join k None) _ was h = absurd (omega (arith, h))
  weighs_by (Take k true told) (Left a) was h = was refl refl
  weighs_by (Take k true told) _ was h = was refl refl
  weighs_by (Take k false true) (Left a) was h = taken (λ n. WeighsBy p ws (Take k false true) (Left a) (position_after n)) k a (λ h. absurd (omega (arith, h))) (λ none h. absurd (omega (arith, h))) h
  weighs_by (Take k false false) (Left a) was h = absurd (omega (arith, h))
  weighs_by (Take k false told) _ was h = absurd (omega (arith, h))
  weighs_by (Retake k) (Left a) was h = was refl refl
  weighs_by (Retake k) _ was h = was refl refl
  weighs_by (Ask k told) Yes was h = absurd (omega (arith, h))
  weighs_by (Ask k (Some a)) _ was h = was refl refl
  weighs_by (Ask k None) _ was h = was refl refl
  weighs_by (Remove k more) Yes was h = absurd (omega (arith, h))
  weighs_by (Remove k (Some a)) _ was h = absurd (omega (arith, h))
  weighs_by (Remove k None) _ was h = absurd (omega (arith, h))
  weighs_by (PassOn k a) f was h = was refl refl
  weighs_by (Try k) (Left a) was h = absurd (omega (arith, h))
  weighs_by (Try k) _ was h = absurd (omega (arith, h))
  weighs_by (Raise n) Done was h = absurd (omega (arith, h))
  weighs_by (Raise n) _ was h = absurd (omega (arith, h))
  weighs_by CancelRemove Yes was h = absurd (omega (arith, h))
  weighs_by CancelRemove _ was h = absurd (omega (arith, h))
  weighs_by _ f was h = absurd (omega (arith, h))

  others_weigh : (a : Action) (f : Found) (j : ℕ) → j ≢ p → weight_in (weights_after p a f ws) j ≡ weight_in ws j
  others_weigh (Action.Join k) Done j apart = get_or-set_other ws p j k 0 apart
  others_weigh _ f j apart = refl

as_many_weights : (p : ℕ) (a : Action) (f : Found) (ws : List ℕ) → length (weights_after p a f ws) ≡ length ws
as_many_weights p (Action.Join k) Done ws = length-set ws p k
as_many_weights p _ f ws = refl

-- ---- one party goes on

module _ (s : ℕ) (xs : List Position) (p : ℕ) (x : Place) (to : Position) where
  goes : p < length xs → seat_of x ≡ seated (position_at xs p) → waits_for s x ≤ waits s (position_at xs p) → Goes s (seat_of x) (seated to) (waits_for s x) (waits s to) (counts_of s xs) (counts_of s (set xs p to))
  goes known same waited =
      let there : p < length (set xs p to) = rw length-set known in
      let itself : owes s (get_or (set xs p to) p Out) ≤ sum_by (owes s) (set xs p to) = get_or-le-sum_by (owes s) (set xs p to) p Out there in
      let itself' : owes s to ≤ sum_by (owes s) (set xs p to) = rw (get_or-set_same xs p to Out known) at itself in
      let held : permits_at (get_or xs p Out) ≡ permits_of (seat_of x).share = ap (λ (z : Seat). permits_of z.share) (sym same) in
      let way : under_way_at (get_or xs p Out) ≡ (seat_of x).share.under_way = ap (λ (z : Seat). z.share.under_way) (sym same) in
      let stands : listed (get_or xs p Out) ≡ (seat_of x).listed = ap (λ (z : Seat). z.listed) (sym same) in
      let owing : owes s (get_or xs p Out) ≡ bit (pays s (seat_of x).debt) = ap (λ (z : Seat). bit (pays s z.debt)) (sym same) in
      let waiting : sum_by (waits s) (set xs p to) + waits s (get_or xs p Out) ≡ sum_by (waits s) xs + waits s to = sum_by-set (waits s) xs p to Out known in
      record {
        held = omega (arith, held, sum_by-set permits_at xs p to Out known);
        under_way = omega (arith, way, sum_by-set under_way_at xs p to Out known);
        listed = omega (arith, stands, sum_by-set listed xs p to Out known);
        waiting = omega (arith, waited, waiting);
        owing = omega (arith, owing, sum_by-set (owes s) xs p to Out known);
        owes_itself = itself';
      }

can_of : (p : ℕ) (w : Words) (q : WeightedQueue) (a : Action) (f : Found) → CanDo p a w q → CanOf p q.entries (effect_of a f)
can_of p w q (Action.Take n) (Left a) k = tt
can_of p w q (Action.Take n) _ k = tt
can_of p w q (Action.GiveBack n) (Available a) k = tt
can_of p w q (Action.GiveBack n) _ k = tt
can_of p w q (Action.Give n) (Available a) k = tt
can_of p w q (Action.Give n) _ k = tt
can_of p w q (Action.Raise n) Done k = tt
can_of p w q (Action.Raise n) _ k = tt
can_of p w q (Action.Lower n) Done k = tt
can_of p w q (Action.Lower n) _ k = tt
can_of p w q Action.Load f k = tt
can_of p w q (Action.Join n) Done k = tt
can_of p w q (Action.Join n) _ k = tt
can_of p w q Action.Ask Yes k = k.1
can_of p w q Action.Ask No k = k.1
can_of p w q Action.Ask _ k = tt
can_of p w q Action.Remove Yes k = k.1
can_of p w q Action.Remove No k = k.1
can_of p w q Action.Remove _ k = tt
can_of p w q (Action.Fit n) Done k = tt
can_of p w q (Action.Fit n) _ k = tt
can_of p w q Action.Nothing f k = tt

module _ (p : ℕ) (w : Words) (xs : List Position) (q : WeightedQueue) (memory : Bool) (lock : IsKept w xs q) where
  -- whoever waits for as many as are available is wanted
  wanted : (s c : ℕ) → s ≤ c → 0 < sum_by (waits s) xs → is_wanted (weight_in q.weights) c q.entries ≡ true
  wanted s c few some =
      let who = some_term Out (waits s) xs some in
      let so = waits_there s (position_at xs who.0) who.2 in
      let there : entries_of who.0 q.entries ≡ 1 = lock.owners who.0 ∙ so.0 in
      let weight : weight_in q.weights who.0 ≡ s = lock.weighs who.0 so.0 ∙ so.1 in
      wanted_so (weight_in q.weights) c who.0 q.entries (omega (arith, there)) (omega (arith, weight, few))

  -- the parties' sizes are the weights of those who are listed
  agree : (j : ℕ) → 0 < entries_of j q.entries → weight_in q.weights j ≡ sizes_of xs j
  agree j some = let own = lock.owners j in lock.weighs j (omega (arith, some, own, one_listed (position_at xs j)))

  pub alike : (d : Effect) → entries_after (weight_in q.weights) p d q.entries ≡ entries_after (sizes_of xs) p d q.entries
  alike nothing = refl
  alike (changes c) = refl
  alike (does joins) = refl
  alike (does asks) = refl
  alike (does removes) = refl
  alike (does (fits_so a)) = fitted-agree (weight_in q.weights) (sizes_of xs) a q.entries agree

  pub locked : (x : Place) (f : Found) → p < length xs → seat_of x ≡ seated (position_at xs p) → ((s : ℕ) → waits_for s x ≤ waits s (position_at xs p)) → (is_short_at x ≡ true → (is_short (position_at xs p) ≡ true) × (size_of x ≡ size_at (position_at xs p))) → Finds memory p (action_of x) f w q.entries
      → IsKept (words_after (effect_of (action_of x) f) w) (set xs p (after x f)) (weighted_queue q.parties (entries_after (weight_in q.weights) p (effect_of (action_of x) f) q.entries) (weights_after p (action_of x) f q.weights))
  locked x f known same waited short finds =
      let to : Position = after x f in
      let d : Effect = effect_of (action_of x) f in
      let can : CanDo p (action_of x) w q = can_do p w xs q lock known x same in
      let t : Tally = tally_of w q.entries in
      let u : Tally = tally_of (words_after d w) (entries_after (weight_in q.weights) p d q.entries) in
      let sound : (s : ℕ) → 0 < s → IsSound s u (counts_of s (set xs p to)) = λ s some. kept s some t u (counts_of s xs) (counts_of s (set xs p to)) x f
      (numbers p w q memory (weight_in q.weights) s (sum_by (waits s) xs) (wanted s) (action_of x) f finds can) (lock.sound s some) (goes s xs p x to known same (waited s)) in
      let was : entries_of p q.entries ≡ (seat_of x).listed = lock.owners p ∙ ap (λ (z : Seat). z.listed) (sym same) in
      let mine : entries_of p (entries_after (weight_in q.weights) p d q.entries) + length q.entries ≡ entries_of p q.entries + length (entries_after (weight_in q.weights) p d q.entries) = own (weight_in q.weights) p q.entries d (can_of p w q (action_of x) f can) in
      let first = sound 1 (omega arith) in
      let size : sum_by listed (set xs p to) ≡ length (entries_after (weight_in q.weights) p d q.entries) = first.in_list in
      let before = lock.sound 1 (omega arith) in
      let size' : sum_by listed xs ≡ length q.entries = before.in_list in
      let go = goes 1 xs p x to known same (waited 1) in
      let move : sum_by listed (set xs p to) + (seat_of x).listed ≡ sum_by listed xs + listed to = go.listed in
      let now : entries_of p (entries_after (weight_in q.weights) p d q.entries) ≡ listed to = omega (arith, was, mine, size, size', move) in
      let there : p < length q.weights = omega (arith, known, lock.weighed) in
      let weighs_now : listed to ≡ 1 → weight_in (weights_after p (action_of x) f q.weights) p ≡ size_at to =
      weighs_by p q.weights there x f (λ l sh. lock.weighs p (sym (ap (λ (z : Seat). z.listed) same) ∙ l) ∙ sym (short sh).1) in
      let some_now : is_short to ≡ true → 0 < size_at to = λ h. elim (short_by memory p w q.entries x f finds h) as (λ _. 0 < size_at to) [ inl y ↦ y | inr y ↦ (let old = short y.0 in let some = lock.some p old.0 in omega (arith, some, old.1, y.1)) ] in
      record {
        sound = sound;
        owners = λ j. elim (ℕ_discrete j p) as (λ _. entries_of j (entries_after (weight_in q.weights) p d q.entries) ≡ listed (position_at (set xs p to) j)) [
          | yes e ↦ (let P : ℕ → Type 0 = λ k. entries_of k (entries_after (weight_in q.weights) p d q.entries) ≡ listed (position_at (set xs p to) k) in
              subst P (sym e) (rw (get_or-set_same xs p to Out known) now))
          | no apart ↦ rw (get_or-set_other xs p j to Out apart) (others (weight_in q.weights) p q.entries d j apart ∙ lock.owners j)
        ];
        weighs = λ j. elim (ℕ_discrete j p) as (λ _. listed (position_at (set xs p to) j) ≡ 1 → weight_in (weights_after p (action_of x) f q.weights) j ≡ sizes_of (set xs p to) j) [
          | yes e ↦ (let P : ℕ → Type 0 = λ k. listed (position_at (set xs p to) k) ≡ 1 → weight_in (weights_after p (action_of x) f q.weights) k ≡ sizes_of (set xs p to) k in
              subst P (sym e) (rw (get_or-set_same xs p to Out known) weighs_now))
          | no apart ↦ rw (get_or-set_other xs p j to Out apart) (λ l. others_weigh p q.weights there (action_of x) f j apart ∙ lock.weighs j l)
        ];
        some = λ j. elim (ℕ_discrete j p) as (λ _. is_short (position_at (set xs p to) j) ≡ true → 0 < sizes_of (set xs p to) j) [
          | yes e ↦ (let P : ℕ → Type 0 = λ k. is_short (position_at (set xs p to) k) ≡ true → 0 < sizes_of (set xs p to) k in
              subst P (sym e) (rw (get_or-set_same xs p to Out known) some_now))
          | no apart ↦ rw (get_or-set_other xs p j to Out apart) (lock.some j)
        ];
        as_many = lock.as_many ∙ sym (length-set xs p to);
        weighed = as_many_weights p (action_of x) f q.weights ∙ (lock.weighed ∙ sym (length-set xs p to));
      }

-- ---- as the machine's call says it

-- where the party's call begins or goes on
pub record Began (xs : List Position) (p : ℕ) (w : Within) (what : What) (from : Place) : Type 0 where
  pub starts : place_for what (position_at xs p) ≡ Some from
  pub fits : Fits w (position_at xs p) from

pub began : (xs : List Position) (p : ℕ) (read : Position) (w : Within) (what : What) (s : Stage) (from : Place) → p < length xs → read ≡ get_or xs p read → place_for what read ≡ Some from
    → goes_with s (position_at xs p) ≡ true → call_at knows s what ≡ Some w → polls_again s what ≡ false → Began xs p w what from
began xs p read w what s from known is starts stands call first =
    let here : position_at xs p ≡ read = get_or_default xs p Out read known ∙ sym is in
    let t = fits s what w (position_at xs p) stands call first in
    let starts' : place_for what (position_at xs p) ≡ Some from = ap (place_for what) here ∙ starts in
    let same : t.from ≡ from = some_eq (sym t.starts ∙ starts') in
    record { starts = starts'; fits = (let P : Place → Type 0 = Fits w (position_at xs p) in subst P same t.holds) }

-- no party is left without a place to go on from
pub never_lost : (xs : List Position) (p : ℕ) (w : Within) (what : What) (s : Stage) → goes_with s (position_at xs p) ≡ true → call_at knows s what ≡ Some w → polls_again s what ≡ false → (from : Place) × (place_for what (position_at xs p) ≡ Some from)
never_lost xs p w what s stands call first = let t = fits s what w (position_at xs p) stands call first in (t.from, t.starts)

pub keeps : (x y : Semaphore) (p : ℕ) (w : Within) (from : Place) (f : Found) → p < length x.positions → runs w.kind w.was from ≡ true → y.positions ≡ set x.positions p (after from f)
    → Keeps (λ (s : Semaphore). length s.positions) Stands x p (stage_after Rest.Holding w (answer_by (next_of from f))) y
keeps x y p w from f known here to =
    let P : List Position → Type 0 = λ ps. goes_with (stage_after Rest.Holding w (answer_by (next_of from f))) (position_at ps p) ≡ true in
    let set_to : P (set x.positions p (after from f)) = rw (get_or-set_same x.positions p (after from f) Out known) (lands w from f here) in
    record {
      as_many = ap length to ∙ length-set x.positions p (after from f);
      own = subst P (sym to) set_to;
      others = λ q s apart stood. (let Q : List Position → Type 0 = λ ps. goes_with s (position_at ps q) ≡ true in subst Q (sym to) (rw (get_or-set_other x.positions p q (after from f) Out apart) stood));
    }
