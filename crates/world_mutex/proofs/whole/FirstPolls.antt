-- A first poll isn't refused for the number of starved parties, where nobody is starved, nor is its party starved then.
use Rattle.world_mutex.proofs.Prelude.{◌≡◌, ℕ, Bool, true, false, List, refl, arith, ap, sym, ◌∙◌, subst, get_or-set_same, true≢false, Entry, is_marked_at, is_party, entries_of, Answer, Call, Inputs, Move, What, Begin, Go, Within, inputs_of, going_on, joined_unmarked, beginning, Onward, stage_at, Table, End, Found, Done, Free, Held, SomeStarved, Yes, Next, Place, Out, Enter, Join, Look, Ask, Leave, action_of, next_of, place_after, listed, Finds, starved, is_counting, HeedsClock, Lock, place_at, OnParties, Guarded, place_of, answer_by, is_try_kind, is_first_poll, World, standing_of, Steps, view_of}
use Rattle.world_mutex.proofs.of_machine.legal.Promised.{none_counted}
use Rattle.world_mutex.proofs.step.Acting.{Acting}
use Rattle.world_mutex.proofs.step.Acting as acting
use Rattle.world_mutex.proofs.step.AtOnce.{first_here}
use Rattle.world_mutex.proofs.step.Here.{same_roles}
use Rattle.world_mutex.proofs.whole.Patient.{refuses_many}
use Rattle.world_mutex.proofs.whole.Whole.{from_turn, by_step}

-- where a first poll is that found the lock held, and what it knows of its entry
abbrev FreshAt : Place → ℕ → List (Entry ℕ) → Type 0
FreshAt Enter p l = Unit {0}
FreshAt (Join told) p l = told ≡ false
FreshAt (Look told) p l = is_marked_at (is_party p) l ≡ false
FreshAt Ask p l = is_marked_at (is_party p) l ≡ false
FreshAt Leave p l = Unit {0}
FreshAt x p l = ⊥

abbrev FreshThen : Next → ℕ → List (Entry ℕ) → Type 0
FreshThen (Next.Do a x) p l = FreshAt x p l
FreshThen (Next.End e) p l = (trying : Bool) (v : ℕ) → refuses_many (answer_by trying v (Next.End e)) ≡ false

got_so : (trying : Bool) (v : ℕ) → refuses_many (answer_by trying v (Next.End End.Got)) ≡ false
got_so true v = refl
got_so false v = refl

goes : (memory : Bool) (p : ℕ) (l k : Lock) (x : Place) (f : Found) → Finds memory (action_of x) f l → OnParties p (action_of x) f l.entries k.entries → starved l ≡ 0 → entries_of p l.entries ≡ listed x → FreshAt x p l.entries → FreshThen (next_of x f) p k.entries
goes memory p l k Enter Free e o none own h = got_so
goes memory p l k Enter _ e o none own h = refl
goes memory p l k (Join true) f e o none own h = absurd (true≢false h)
goes memory p l k (Join false) Done e o none own h = ap (is_marked_at (is_party p)) o ∙ joined_unmarked p l.entries own
goes memory p l k (Join false) _ e o none own h = λ trying v. refl
goes memory p l k (Look told) Free e o none own h = tt
goes memory p l k (Look told) (Held b) e o none own h = ap (is_marked_at (is_party p)) o ∙ h
goes memory p l k (Look told) SomeStarved e o none own h = absurd (omega (arith, e, none))
goes memory p l k (Look told) _ e o none own h = absurd e
goes memory p l k Ask Yes e o none own h = absurd (true≢false (sym o.0 ∙ h))
goes memory p l k Ask _ e o none own h = λ trying v. refl
goes memory p l k Leave f e o none own h = got_so
goes memory p l k _ f e o none own h = absurd h

heedless : (x : Place) (n : Next) (p : ℕ) (l : List (Entry ℕ)) → FreshAt x p l → HeedsClock false x n × (is_counting x ≡ false)
heedless Enter n p l h = (tt, refl)
heedless (Join told) n p l h = (tt, refl)
heedless (Look told) n p l h = (tt, refl)
heedless Ask n p l h = (tt, refl)
heedless Leave n p l h = (tt, refl)
heedless _ n p l h = absurd h

ends_not : (trying : Bool) (v : ℕ) (e : End) → answer_by trying v (Next.End e) ≡ Answer.Stepped → ⊥
ends_not true v End.Got h = cc h
ends_not false v End.Got h = cc h
ends_not trying v End.Pending h = cc h
ends_not trying v End.NotFree h = cc h
ends_not trying v End.Granted h = cc h
ends_not trying v End.Waiting h = cc h
ends_not trying v End.GivenBack h = cc h
ends_not trying v (End.Refused r) h = cc h

module _ (p : ℕ) (i : Inputs) where
  pub record Fresh (t : Table Guarded) : Type 0 where
    pub unstarved : starved t.machine.lock ≡ 0
    pub fresh : FreshAt (place_of t.machine p) p t.machine.lock.entries

  abbrev pub Unrefused : Answer → Table Guarded → Type 0
  Unrefused b t = (refuses_many b ≡ false) × (starved t.machine.lock ≡ 0)

  abbrev OnTo : Answer → Table Guarded → Type 0
  OnTo = Onward Fresh Unrefused

  answered : (trying : Bool) (v : ℕ) (from : Place) (n : Next) (a : Answer) (u : Table Guarded) → a ≡ answer_by trying v n → place_of u.machine p ≡ place_after from n → starved u.machine.lock ≡ 0 → FreshThen n p u.machine.lock.entries → OnTo a u
  answered trying v from (Next.Do b x) a u is to none h = (
      let F : Place → Type 0 = λ y. FreshAt y p u.machine.lock.entries in
      record { going = λ e. record { unstarved = none; fresh = subst F (sym to) h }; ended = λ e. (ap refuses_many is, none) }
      )
  answered trying v from (Next.End e) a u is to none h = record { going = λ s. absurd (ends_not trying v e (sym is ∙ s)); ended = λ s. (ap refuses_many is ∙ h trying v, none) }

  acted : (t u : Table Guarded) (what : What) (a : Answer) (w : Within) (k : Acting t u (record { party = p; what = what }) a w) → starved t.machine.lock ≡ 0 → FreshAt k.carries.from p t.machine.lock.entries → OnTo a u
  acted t u what a w k none fresh =
      let m : Move = record { party = p; what = what } in
      let from = k.carries.from in
      let did = k.carries.carried.acts in
      let quiet = heedless from k.carries.next p t.machine.lock.entries fresh in
      let same = same_roles (stage_at t.stages p) w (place_of t.machine p) from k.here.begins in
      let it = none_counted (inputs_of what).memory p from k.carries.next t.machine.lock u.machine.lock did quiet.0 (acting.there t u m a w k) same none quiet.1 in
      let own : entries_of p t.machine.lock.entries ≡ listed from = k.old_laws.owners p ∙ sym same.standing in
      let on : FreshThen (next_of from did.found) p u.machine.lock.entries = goes (inputs_of what).memory p t.machine.lock u.machine.lock from did.found did.finds did.list none own fresh in
      let N : Next → Type 0 = λ n. FreshThen n p u.machine.lock.entries in
      let lands : place_of u.machine p ≡ place_after from k.carries.next = ap (λ ps. place_at ps p) did.places ∙ get_or-set_same t.machine.lock.places p (place_after from k.carries.next) Out (acting.there t u m a w k) in
      answered (is_try_kind w.kind) t.machine.value from k.carries.next a u k.carries.answer lands it.0 (subst N (sym did.next_is) on)

  ends_so : (b : Answer) (x : Table Guarded) → (b ≡ Answer.Stepped → ⊥) → refuses_many b ≡ false → starved x.machine.lock ≡ 0 → OnTo b x
  ends_so b x f g none = record { going = λ s. absurd (f s); ended = λ s. (g, none) }

  steps : (x : World) (what : What) (a : Answer) (v : World) → starved x.behind.machine.lock ≡ 0 → ((w : Within) (k : Acting x.behind v.behind (record { party = p; what = what }) a w) → FreshAt k.carries.from p x.behind.machine.lock.entries)
      → Steps x (record { party = p; what = what }) a v → Onward (λ y. Fresh y.behind) (λ b y. Unrefused b y.behind) a v
  steps x what a v none fresh s =
      let o = by_step x.behind v.behind (record { party = p; what = what }) a s.did.stood.laws s.did.stood.fits s.did.stands.laws s.did.stands.fits OnTo
      (ends_so _ x.behind (λ e. cc e) refl none) (ends_so _ x.behind (λ e. cc e) refl none) (λ n e. ends_so _ v.behind (λ y. cc y) refl (ap (λ (g : Guarded). starved g.lock) e ∙ none))
      (λ w k. acted x.behind v.behind what a w k none (fresh w k)) s.did.step in
      record { going = o.going; ended = o.ended }

  pub onward : (x : World) (a : Answer) (v : World) → Fresh x.behind → Steps x (going_on p i) a v → Onward (λ y. Fresh y.behind) (λ b y. Unrefused b y.behind) a v
  onward x a v g s = steps x (Go i) a v g.unstarved (λ w k. (let F : Place → Type 0 = λ y. FreshAt y p x.behind.machine.lock.entries in subst F (from_turn x.behind v.behind (going_on p i) a w k) g.fresh)) s

  pub first : (c : Call) (x : World) → starved x.behind.machine.lock ≡ 0 → is_first_poll (standing_of (view_of x.behind) p) (Begin c i) (entries_of p (view_of x.behind).entries) ≡ true → (a : Answer) (v : World) → Steps x (beginning p c i) a v → Onward (λ y. Fresh y.behind) (λ b y. Unrefused b y.behind) a v
  first c x none is a v s = steps x (Begin c i) a v none (λ w k. (let F : Place → Type 0 = λ y. FreshAt y p x.behind.machine.lock.entries in subst F (sym (first_here x.behind v.behind (beginning p c i) a w k is).0) tt)) s
