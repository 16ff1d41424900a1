-- The semaphore's limit: only who loses its item lowers it, and no step raises it.
use Rattle.world_pool.proofs.Prelude.{◌≡◌, ℕ, ◌+◌, Bool, true, Option, Some, None, refl, arith, ap, sym, ◌∙◌, subst, false≢true, none_some, some_eq, both, Inputs, End, Step, Permits, permit_course, Refusal, Found, Place, Acquire, WaitPermit, TakePermit, TryPermit, ReturnPermit, ReturningPermit, CancelPermit, CancellingPermit, Lose, At, action_of, OnPermits, wants, has, returns, fits_permits, in_permits, as_number}
use Rattle.world_semaphore.specs.declared.machine.words.Words.{Words}
use Rattle.world_semaphore.specs.machine.Conduct.{IsAllowed, IsLegal, Polls, Tries}
use Rattle.world_semaphore.specs.machine.Course as permit
use Rattle.world_semaphore.specs.machine.Effects.{Effect, nothing, changes, does, takes, gives_back, forgets, raises, gives, share_then, words_after, gives_something_back}
use Rattle.world_semaphore.specs.machine.Seats.{Share, nothing_had, guard_of}
use Rattle.world_pool.proofs.of_machine.Links
use Rattle.world_pool.proofs.of_machine.Items.{is_loss}

abbrev under_way : permit.Course → ℕ
under_way c = (permit.share c).under_way

-- nothing is under way where a poll or a try has led
polling_idle : (c : permit.Course) → permit.is_polling c ≡ true → under_way c ≡ 0
polling_idle (permit.polling k l o d) h = refl
polling_idle (permit.decided End.Got k l d) h = refl
polling_idle (permit.decided End.Pending k l d) h = refl
polling_idle (permit.decided (End.Refused r) k l d) h = refl
polling_idle _ h = absurd (cc)

polls_idle : (s : Step) (to : permit.Course) → Polls 1 s to → under_way to ≡ 0
polls_idle Step.More to h = polling_idle to h.0
polls_idle (Step.End End.Got) to h = rw h refl
polls_idle (Step.End End.Pending) to h = rw h refl
polls_idle (Step.End (End.Refused Refusal.Memory)) to h = rw h refl
polls_idle (Step.End (End.Refused _)) to h = absurd h
polls_idle (Step.End _) to h = absurd h

tries_idle : (s : Step) (to : permit.Course) → Tries 1 s to → under_way to ≡ 0
tries_idle (Step.End End.Granted) to h = rw h refl
tries_idle (Step.End End.NotFree) to h = rw h refl
tries_idle _ to h = absurd h

-- a poll is decided on no drop's end, and a drop has no permit to forget
polls_on : (c : permit.Course) → permit.is_polling c ≡ true → permit.decision c ≡ Some End.GivenBack → ⊥
polls_on (permit.polling k l o d) h e = none_some e
polls_on (permit.decided End.Got k l d) h e = absurd (cc (some_eq e))
polls_on (permit.decided End.Pending k l d) h e = absurd (cc (some_eq e))
polls_on (permit.decided (End.Refused r) k l d) h e = absurd (cc (some_eq e))
polls_on _ h e = absurd (cc)

drops_bare : (c : permit.Course) → fits_permits returns c ≡ true → permit.share c ≡ nothing_had
drops_bare (permit.decided End.GivenBack k l d) h = refl
drops_bare _ h = absurd (cc)

drops_back : (c : permit.Course) → fits_permits returns c ≡ true → permit.decision c ≡ Some End.GivenBack
drops_back (permit.decided End.GivenBack k l d) h = refl
drops_back _ h = absurd (cc)

wants_bare : (c : permit.Course) → fits_permits wants c ≡ true → permit.share c ≡ nothing_had
wants_bare (permit.unlisted k) h = refl
wants_bare (permit.waiting k) h = refl
wants_bare _ h = absurd (false≢true h)

pub has_is : (c : permit.Course) → fits_permits has c ≡ true → c ≡ permit.holding (permit.size c)
has_is (permit.holding k) h = refl
has_is _ h = absurd (false≢true h)

pub size_one : (c : permit.Course) → fits_permits has c ≡ true → permit.size c ≡ 1
size_one (permit.holding k) h = Links.is_one k h
size_one _ h = absurd (false≢true h)

bare_guard : (n : ℕ) (z : Share) → z ≡ nothing_had → z ≡ guard_of n → ⊥
bare_guard n z e h = none_some (sym (ap (λ (y : Share). y.held) e) ∙ ap (λ (y : Share). y.held) h)

module _ (memory : Bool) (p k : ℕ) (d : Option End) (s : Step) (t u : Permits) (legal : IsLegal memory p k d s t u) where
  abbrev was : permit.Course
  was = permit_course t.courses p

  abbrev is : permit.Course
  is = permit_course u.courses p

  abbrev NoRaise : Type 0
  NoRaise = (n : ℕ) → legal.effect ≡ changes (raises n) → ⊥

  abbrev NoForget : Type 0
  NoForget = (n : ℕ) → legal.effect ≡ changes (forgets n) → ⊥

  by_effect : (effect : Effect) → u.words ≡ words_after effect t.words → ((n : ℕ) → effect ≡ changes (raises n) → ⊥) → ((n : ℕ) → effect ≡ changes (forgets n) → ⊥) → u.words.limit ≡ t.words.limit
  by_effect (changes (raises n)) words r f = absurd (r n refl)
  by_effect (changes (forgets n)) words r f = absurd (f n refl)
  by_effect (changes (takes n)) words r f = ap (λ (z : Words). z.limit) words
  by_effect (changes (gives_back n)) words r f = ap (λ (z : Words). z.limit) words
  by_effect (changes (gives n)) words r f = ap (λ (z : Words). z.limit) words
  by_effect nothing words r f = ap (λ (z : Words). z.limit) words
  by_effect (does f) words r g = ap (λ (z : Words). z.limit) words

  limit_kept : NoRaise → NoForget → u.words.limit ≡ t.words.limit
  limit_kept r f = by_effect legal.effect legal.words r f

  most_by : (effect : Effect) → u.words ≡ words_after effect t.words → u.words.most ≡ t.words.most
  most_by (changes c) words = ap (λ (z : Words). z.most) words
  most_by nothing words = ap (λ (z : Words). z.most) words
  most_by (does f) words = ap (λ (z : Words). z.most) words

  pub most_kept : u.words.most ≡ t.words.most
  most_kept = most_by legal.effect legal.words

  -- nothing is under way afterwards, and something would be
  undecided_raises_none : k ≡ 1 → under_way is ≡ 0 → NoRaise
  undecided_raises_none one none n e =
      let P : Effect → Type 0 = λ z. IsAllowed p k d z t in
      let allowed = subst P e legal.allowed in
      let Q : Effect → Type 0 = λ z. permit.share is ≡ share_then z (permit.share was) in
      let raised = ap (λ (z : Share). z.under_way) (subst Q e legal.share) in
      absurd (omega (arith, allowed.0))

  decided_raises_none : (e : End) → d ≡ Some e → NoRaise
  decided_raises_none e on n is_raise =
      let P : Effect → Type 0 = λ z. gives_something_back z ≡ true in
      false≢true (subst P is_raise (legal.kept e on).1)

  undecided_forgets_none : (d ≡ Some End.GivenBack → ⊥) → NoForget
  undecided_forgets_none on n e = let P : Effect → Type 0 = λ z. IsAllowed p k d z t in on (subst P e legal.allowed).1

  bare_forgets_none : permit.share was ≡ nothing_had → NoForget
  bare_forgets_none bare n e = let P : Effect → Type 0 = λ z. IsAllowed p k d z t in bare_guard n (permit.share was) bare (subst P e legal.allowed).0

  returned_forgets_none : k ≡ 1 → u.words.available ≡ t.words.available + k → NoForget
  returned_forgets_none one more n e =
      let P : Effect → Type 0 = λ z. u.words ≡ words_after z t.words in
      let same = ap (λ (z : Words). z.available) (subst P e legal.words) in
      absurd (omega arith)

module _ (i : Inputs) (p : ℕ) (t u : Permits) where
  -- a step in the semaphore, but for a loss, leaves its limit
  pub limit_stays : (x : Place) (f : Found) → OnPermits i p (action_of x) f t u → fits_permits (in_permits (At x)) (permit_course t.courses p) ≡ true → u.words.limit + as_number (is_loss (action_of x)) ≡ t.words.limit
  limit_stays Acquire (Found.Permit s) e link = (let l = limit_kept i.memory p 1 None s t u e.legal (undecided_raises_none i.memory p 1 None s t u e.legal refl (polls_idle s _ e.leads)) (undecided_forgets_none i.memory p 1 None s t u e.legal none_some) in omega arith)
  limit_stays Acquire _ e link = absurd e
  limit_stays WaitPermit (Found.Permit s) e link = (
      let one = Links.wants_one (permit_course t.courses p) link in
      let k = permit.size (permit_course t.courses p) in
      let P : ℕ → Type 0 = λ n. Polls n s (permit_course u.courses p) in
      let l = limit_kept i.memory p k None s t u e.legal (undecided_raises_none i.memory p k None s t u e.legal one (polls_idle s _ (subst P one e.leads))) (undecided_forgets_none i.memory p k None s t u e.legal none_some) in omega arith)
  limit_stays WaitPermit _ e link = absurd e
  limit_stays TakePermit (Found.Permit s) e link = (
      let c = permit_course t.courses p in
      let k = permit.size c in
      let b = both (permit.is_polling c) _ link in
      let one = Links.is_one k b.1 in
      let P : ℕ → Type 0 = λ n. Polls n s (permit_course u.courses p) in
      let l = limit_kept i.memory p k (permit.decision c) s t u e.legal (undecided_raises_none i.memory p k (permit.decision c) s t u e.legal one (polls_idle s _ (subst P one (e.leads.polls b.0)))) (undecided_forgets_none i.memory p k (permit.decision c) s t u e.legal (polls_on c b.0)) in omega arith)
  limit_stays TakePermit _ e link = absurd e
  limit_stays TryPermit (Found.Permit s) e link = (let l = limit_kept i.memory p 1 None s t u e.legal (undecided_raises_none i.memory p 1 None s t u e.legal refl (tries_idle s _ e.leads)) (undecided_forgets_none i.memory p 1 None s t u e.legal none_some) in omega arith)
  limit_stays TryPermit _ e link = absurd e
  limit_stays (ReturnPermit r) (Found.Permit s) e link = (
      let c = permit_course t.courses p in
      let k = permit.size c in
      let one = size_one c link in
      let l = limit_kept i.memory p k (Some End.GivenBack) s t u e.legal (decided_raises_none i.memory p k (Some End.GivenBack) s t u e.legal End.GivenBack refl) (returned_forgets_none i.memory p k (Some End.GivenBack) s t u e.legal one (e.at_once.returns refl (has_is c link)).0) in omega arith)
  limit_stays (ReturnPermit r) _ e link = absurd e
  limit_stays (ReturningPermit r) (Found.Permit s) e link = (
      let c = permit_course t.courses p in
      let l = limit_kept i.memory p (permit.size c) (permit.decision c) s t u e.legal (decided_raises_none i.memory p (permit.size c) (permit.decision c) s t u e.legal End.GivenBack (drops_back c link)) (bare_forgets_none i.memory p (permit.size c) (permit.decision c) s t u e.legal (drops_bare c link)) in omega arith)
  limit_stays (ReturningPermit r) _ e link = absurd e
  limit_stays CancelPermit (Found.Permit s) e link = (
      let c = permit_course t.courses p in
      let l = limit_kept i.memory p (permit.size c) (Some End.GivenBack) s t u e.legal (decided_raises_none i.memory p (permit.size c) (Some End.GivenBack) s t u e.legal End.GivenBack refl) (bare_forgets_none i.memory p (permit.size c) (Some End.GivenBack) s t u e.legal (wants_bare c link)) in omega arith)
  limit_stays CancelPermit _ e link = absurd e
  limit_stays CancellingPermit (Found.Permit s) e link = (
      let c = permit_course t.courses p in
      let l = limit_kept i.memory p (permit.size c) (permit.decision c) s t u e.legal (decided_raises_none i.memory p (permit.size c) (permit.decision c) s t u e.legal End.GivenBack (drops_back c link)) (bare_forgets_none i.memory p (permit.size c) (permit.decision c) s t u e.legal (drops_bare c link)) in omega arith)
  limit_stays CancellingPermit _ e link = absurd e
  limit_stays Lose f e link = (let one = size_one (permit_course t.courses p) link in let l = e.at_once.forgets refl in omega arith)
  limit_stays _ f e link = (let same = ap (λ (z : Permits). z.words.limit) e in omega arith)

  pub most_stays : (x : Place) (f : Found) → OnPermits i p (action_of x) f t u → u.words.most ≡ t.words.most
  most_stays Acquire (Found.Permit s) e = most_kept i.memory p _ _ s t u e.legal
  most_stays Acquire _ e = absurd e
  most_stays WaitPermit (Found.Permit s) e = most_kept i.memory p _ _ s t u e.legal
  most_stays WaitPermit _ e = absurd e
  most_stays TakePermit (Found.Permit s) e = most_kept i.memory p _ _ s t u e.legal
  most_stays TakePermit _ e = absurd e
  most_stays TryPermit (Found.Permit s) e = most_kept i.memory p _ _ s t u e.legal
  most_stays TryPermit _ e = absurd e
  most_stays (ReturnPermit r) (Found.Permit s) e = most_kept i.memory p _ _ s t u e.legal
  most_stays (ReturnPermit r) _ e = absurd e
  most_stays (ReturningPermit r) (Found.Permit s) e = most_kept i.memory p _ _ s t u e.legal
  most_stays (ReturningPermit r) _ e = absurd e
  most_stays CancelPermit (Found.Permit s) e = most_kept i.memory p _ _ s t u e.legal
  most_stays CancelPermit _ e = absurd e
  most_stays CancellingPermit (Found.Permit s) e = most_kept i.memory p _ _ s t u e.legal
  most_stays CancellingPermit _ e = absurd e
  most_stays Lose f e = most_kept i.memory p _ _ _ t u e.legal
  most_stays _ f e = ap (λ (z : Permits). z.words.most) e
