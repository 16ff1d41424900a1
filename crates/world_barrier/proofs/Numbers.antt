-- What the numbers of arrivals say of how far a barrier is, and the other way round.
use Rattle.world_barrier.proofs.Prelude.{◌≡◌, ◌≢◌, ℕ, zero, suc, ◌+◌, ◌*◌, ◌/◌, ◌%◌, ◌^◌, ◌<◌, ◌≤◌, ◌⊎◌, inl, inr, refl, sym, ap, ◌∙◌, subst, arith, cases_lt, Progress, progress, arrivals_at, IsPast, IsWithin, IsFollower, Leads, IsFinished, generations_of, count_of}
use Rattle.std.proofs.Math.Nat.{mul_comm, mul-suc, div-add-mod, mod-lt}
use Rattle.std.proofs.lemmas.Nat.{mul-le, div-mul-add, mod-mul-add}

-- ---- multiples

-- between two neighbouring multiples there is no other
between : (s g c d q : ℕ) → 0 < c → d < s → s * g + c ≤ s * q → s * q ≤ s * g + d → ⊥
between s g c d q some few from to = by_order (cases_lt g q) where
  by_order : (g < q) ⊎ (q ≤ g) → ⊥
  by_order (inr low) = let least = mul-le s q s g (omega arith) low in omega (arith, least, from, some)
  by_order (inl high) = let most = mul-le s (suc g) s q (omega arith) high in let more = mul-suc s g in omega (arith, most, more, to, few)

-- ---- how far a barrier is, by how many arrivals are counted

none_of_none : (x : Progress) → IsWithin 0 x → x.count ≡ 0
none_of_none x h = by_count (cases_lt 0 x.count) where
  by_count : (0 < x.count) ⊎ (x.count ≤ 0) → x.count ≡ 0
  by_count (inl some) = let never = h some in absurd (omega (arith, never))
  by_count (inr none) = omega (arith, none)

fewer : (n : ℕ) (x : Progress) → IsWithin (suc n) x → x.count < suc n
fewer n x h = by_count (cases_lt 0 x.count) where
  by_count : (0 < x.count) ⊎ (x.count ≤ 0) → x.count < suc n
  by_count (inl some) = h some
  by_count (inr none) = omega (arith, none)

as_written : (n g c : ℕ) → suc n * g + c ≡ g * suc n + c
as_written n g c = omega (arith, mul_comm (suc n) g)

-- so many generations are finished, and so many arrivals counted towards the next one
pub its_generations : (size : ℕ) (x : Progress) → IsWithin size x → generations_of size (arrivals_at size x) ≡ x.generation
its_generations zero x h = refl
its_generations (suc n) x h = ap (λ k. k / suc n) (as_written n x.generation x.count) ∙ div-mul-add x.generation (suc n) x.count (fewer n x h)

pub its_count : (size : ℕ) (x : Progress) → IsWithin size x → count_of size (arrivals_at size x) ≡ x.count
its_count zero x h = sym (none_of_none x h)
its_count (suc n) x h = ap (λ k. k % suc n) (as_written n x.generation x.count) ∙ mod-mul-add x.generation (suc n) x.count (fewer n x h)

-- ---- one more arrival

-- that doesn't finish its generation
pub arrived : (size : ℕ) (x : Progress) → x.count + 1 < size → arrivals_at size (progress x.generation (x.count + 1)) ≡ arrivals_at size x + 1
arrived zero x h = absurd (omega (arith, h))
arrived (suc n) x h = omega arith

-- that does
pub completed : (size : ℕ) (x : Progress) → IsWithin size x → size ≤ x.count + 1 → arrivals_at size (progress (x.generation + 1) 0) ≡ arrivals_at size x + 1
completed zero x few h = refl
completed (suc n) x few h = let more = mul-suc (suc n) x.generation in let less = fewer n x few in omega (arith, more, less, h)

-- one that finishes its generation leads
pub leads : (size : ℕ) (a : Progress) → a.count ≡ 0 → Leads size (arrivals_at size a)
leads zero a none = inl refl
leads (suc n) a none = inr (a.generation, omega (arith, none))

pub next_leads : (size : ℕ) (x : Progress) → IsWithin size x → size ≤ x.count + 1 → Leads size (arrivals_at size x + 1)
next_leads zero x few h = inl refl
next_leads (suc n) x few h = let more = mul-suc (suc n) x.generation in let less = fewer n x few in inr (suc x.generation, omega (arith, more, less, h))

-- and one that doesn't finish it doesn't
doesnt_lead : (size : ℕ) (a : Progress) → 0 < a.count → a.count < size → Leads size (arrivals_at size a) → ⊥
doesnt_lead zero a some few h = omega (arith, few)
doesnt_lead (suc n) a some few (inl e) = omega (arith, e)
doesnt_lead (suc n) a some few (inr (q, e)) = between (suc n) a.generation a.count a.count q some few (omega (arith, e)) (omega (arith, e))

pub next_follows : (size : ℕ) (x : Progress) → x.count + 1 < size → Leads size (arrivals_at size x + 1) → ⊥
next_follows zero x h l = omega (arith, h)
next_follows (suc n) x h (inl e) = omega (arith, e)
next_follows (suc n) x h (inr (q, e)) = between (suc n) x.generation (x.count + 1) (x.count + 1) q (omega arith) h (omega (arith, e)) (omega (arith, e))

pub follower_follows : (size : ℕ) (a : Progress) → IsFollower size a → Leads size (arrivals_at size a) → ⊥
follower_follows size a f = doesnt_lead size a f.counted f.unfinished

-- ---- how many generations one more arrival finishes

split : (n k : ℕ) → suc n * (k / suc n) + k % suc n ≡ k
split n k = div-add-mod k (suc n)

next_generation_by : (n k : ℕ) → (k % suc n + 1 < suc n) ⊎ (suc n ≤ k % suc n + 1) → Leads (suc n) (k + 1) → (k + 1) / suc n ≡ k / suc n + 1
next_generation_by n k (inl more) l = absurd (next_follows (suc n) (progress (k / suc n) (k % suc n)) more (subst (λ j. Leads (suc n) (j + 1)) (sym (split n k)) l))
next_generation_by n k (inr last) l =
    let below : k % suc n < suc n = mod-lt k (omega arith) in
    let next = mul-suc (suc n) (k / suc n) in
    let so : k + 1 ≡ suc (k / suc n) * suc n + 0 = omega (arith, split n k, next, mul_comm (suc n) (suc (k / suc n)), last, below) in
    let q = div-mul-add (suc (k / suc n)) (suc n) 0 (omega arith) in
    ap (λ j. j / suc n) so ∙ (q ∙ omega arith)

pub next_generation : (size k : ℕ) → Leads size (k + 1) → generations_of size (k + 1) ≡ generations_of size k + 1
next_generation zero k l = refl
next_generation (suc n) k l = next_generation_by n k (cases_lt (k % suc n + 1) (suc n)) l

same_generation_by : (n k : ℕ) → (k % suc n + 1 < suc n) ⊎ (suc n ≤ k % suc n + 1) → (Leads (suc n) (k + 1) → ⊥) → (k + 1) / suc n ≡ k / suc n
same_generation_by n k (inl more) l =
    let so : k + 1 ≡ (k / suc n) * suc n + (k % suc n + 1) = omega (arith, split n k, mul_comm (suc n) (k / suc n)) in
    ap (λ j. j / suc n) so ∙ div-mul-add (k / suc n) (suc n) (k % suc n + 1) more
same_generation_by n k (inr last) l =
    let below : k % suc n < suc n = mod-lt k (omega arith) in
    absurd (l (inr (suc (k / suc n), omega (arith, split n k, mul-suc (suc n) (k / suc n), last, below))))

pub same_generation : (size k : ℕ) → (Leads size (k + 1) → ⊥) → generations_of size (k + 1) ≡ generations_of size k
same_generation zero k l = absurd (l (inl refl))
same_generation (suc n) k l = same_generation_by n k (cases_lt (k % suc n + 1) (suc n)) l

-- the next arrival leads or doesn't
leads_or_follows_by : (n k : ℕ) → (k % suc n + 1 < suc n) ⊎ (suc n ≤ k % suc n + 1) → Leads (suc n) (k + 1) ⊎ (Leads (suc n) (k + 1) → ⊥)
leads_or_follows_by n k (inl more) = inr (λ l. next_follows (suc n) (progress (k / suc n) (k % suc n)) more (subst (λ j. Leads (suc n) (j + 1)) (sym (split n k)) l))
leads_or_follows_by n k (inr last) =
    let below : k % suc n < suc n = mod-lt k (omega arith) in
    inl (inr (suc (k / suc n), omega (arith, split n k, mul-suc (suc n) (k / suc n), last, below)))

pub leads_or_follows : (size k : ℕ) → Leads size (k + 1) ⊎ (Leads size (k + 1) → ⊥)
leads_or_follows zero k = inl (inl refl)
leads_or_follows (suc n) k = leads_or_follows_by n k (cases_lt (k % suc n + 1) (suc n))

-- ---- arrivals that were counted

pub not_ahead : (size : ℕ) (a x : Progress) → IsWithin size a → IsPast a x → arrivals_at size a ≤ arrivals_at size x
not_ahead zero a x few past = past.generation
not_ahead (suc n) a x few past = by_order (cases_lt a.generation x.generation) where
  by_order : (a.generation < x.generation) ⊎ (x.generation ≤ a.generation) → suc n * a.generation + a.count ≤ suc n * x.generation + x.count
  by_order (inl less) =
      let below = mul-le (suc n) (suc a.generation) (suc n) x.generation (omega arith) less in
      let more = mul-suc (suc n) a.generation in
      let short = fewer n a few in
      omega (arith, below, more, short)
  by_order (inr least) =
      let same : a.generation ≡ x.generation = omega (arith, past.generation, least) in
      let no_more = past.count same in
      let so : suc n * a.generation ≡ suc n * x.generation = ap (λ g. suc n * g) same in
      omega (arith, so, no_more)

-- numbers begin at 1
pub from_one : (size : ℕ) (a : Progress) → IsWithin size a → 0 < a.generation + a.count → 0 < arrivals_at size a
from_one zero a few some = let none = none_of_none a few in omega (arith, none, some)
from_one (suc n) a few some = by_generation (cases_lt 0 a.generation) where
  by_generation : (0 < a.generation) ⊎ (a.generation ≤ 0) → 0 < suc n * a.generation + a.count
  by_generation (inl h) = let least = mul-le 1 1 (suc n) a.generation (omega arith) h in omega (arith, least)
  by_generation (inr h) = omega (arith, h, some)

-- the generation of a follower is finished where more are than were at its arrival
pub is_finished : (size : ℕ) (a x : Progress) → IsFollower size a → a.generation < x.generation → IsFinished size (arrivals_at size a) (arrivals_at size x)
is_finished zero a x f less = absurd (omega (arith, f.unfinished))
is_finished (suc n) a x f less =
    let next = mul-suc (suc n) a.generation in
    let below = mul-le (suc n) (suc a.generation) (suc n) x.generation (omega arith) less in
    (suc a.generation, omega (arith, next, f.unfinished), omega (arith, below))

-- and isn't where as many are
pub is_unfinished : (size : ℕ) (a x : Progress) → IsFollower size a → IsWithin size x → a.generation ≡ x.generation → IsFinished size (arrivals_at size a) (arrivals_at size x) → ⊥
is_unfinished zero a x f few same h = omega (arith, f.unfinished)
is_unfinished (suc n) a x f few same (q, from, to) =
    let so : suc n * a.generation ≡ suc n * x.generation = ap (λ g. suc n * g) same in
    between (suc n) x.generation a.count x.count q f.counted (fewer n x few) (omega (arith, so, from)) (omega (arith, to))

pub is_finished_apart : (size : ℕ) (a x : Progress) → IsFollower size a → IsPast a x → a.generation ≢ x.generation → IsFinished size (arrivals_at size a) (arrivals_at size x)
is_finished_apart size a x f past apart = by_order (cases_lt a.generation x.generation) where
  by_order : (a.generation < x.generation) ⊎ (x.generation ≤ a.generation) → IsFinished size (arrivals_at size a) (arrivals_at size x)
  by_order (inl less) = is_finished size a x f less
  by_order (inr least) = absurd (apart (omega (arith, past.generation, least)))

pub past_its_generation : (size : ℕ) (a x : Progress) → IsFollower size a → IsWithin size x → IsPast a x → IsFinished size (arrivals_at size a) (arrivals_at size x) → a.generation < x.generation
past_its_generation size a x f few past h = by_order (cases_lt a.generation x.generation) where
  by_order : (a.generation < x.generation) ⊎ (x.generation ≤ a.generation) → a.generation < x.generation
  by_order (inl less) = less
  by_order (inr least) = absurd (is_unfinished size a x f few (omega (arith, past.generation, least)) h)

-- ---- arrivals have numbers of their own

pub same_arrival : (size : ℕ) (a b : Progress) → IsWithin size a → IsWithin size b → arrivals_at size a ≡ arrivals_at size b → a ≡ b
same_arrival size a b f g e =
    let generations : a.generation ≡ b.generation = sym (its_generations size a f) ∙ (ap (generations_of size) e ∙ its_generations size b g) in
    let counts : a.count ≡ b.count = sym (its_count size a f) ∙ (ap (count_of size) e ∙ its_count size b g) in
    ap (λ g. progress g a.count) generations ∙ ap (λ c. progress b.generation c) counts

-- ---- a number of 128 bits counts them

pub counts_in_128_bits : (size g c : ℕ) → size < 2 ^ 64 → g < 2 ^ 64 → c < 2 ^ 64 → arrivals_at size (progress g c) < 2 ^ 128
counts_in_128_bits zero g c s h k = omega (arith, h)
counts_in_128_bits (suc n) g c s h k = let most = mul-le (suc n) g 18446744073709551615 18446744073709551615 (omega (arith, s)) (omega (arith, h)) in omega (arith, most, k)

pub fits_128_bits : (size g c : ℕ) → size < 2 ^ 64 → g < 2 ^ 64 → c < 2 ^ 64 → size * g + c < 2 ^ 128
fits_128_bits size g c s h k = let most = mul-le size g 18446744073709551615 18446744073709551615 (omega (arith, s)) (omega (arith, h)) in omega (arith, most, k)
