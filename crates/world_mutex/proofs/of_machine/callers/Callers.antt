-- What the machines and Worlds above may rest on that take a mutex for a part of their own: which calls may begin, what a party has by the course of its calls, on which end its call is decided, what a new mutex looks like, and giving way as Worlds say it.
use Rattle.world_mutex.proofs.Prelude.{◌≡◌, ℕ, ◌+◌, ◌<◌, ◌≤◌, ◌⊎◌, inl, inr, zero, suc, true, false, ◌∷◌, length, map, replicate, Option, Some, None, refl, ap, arith, ◌∙◌, false≢true, entries_of, Refusal, some_listed, LockCall, End, Got, Pending, GivenBack, Refused, Course, out, holding, waiting, taking, releasing, cancelling, undecided, called, counting, has_lock, is_out, is_holding, is_taking, is_releasing, is_cancelling, may_begin, Mutex, course_at, new_mutex}
use Rattle.std.proofs.lemmas.List.{length-replicate}
use Rattle.world_base.specs.Bounds as bounds
use Rattle.world_base.proofs.Alike.{all_alike}
use Rattle.world_mutex.specs.machine.Course.{gives_up, holds, listed, decision, is_waiting, is_resting, is_counting}
use Rattle.world_mutex.specs.machine.Mutex.{is_counted, holder_from, holder_of, starved_of}
use Rattle.world_mutex.specs.machine.Alone.{GaveWay}
use Rattle.world_mutex.proofs.of_machine.callers.Holders as sees
pub use Rattle.world_mutex.proofs.of_machine.solo_polls.SoloPolls.{first_marked}

-- which calls may begin
pub may_lock : (x : Course) → is_out x ≡ true → may_begin LockCall.Lock x ≡ true
may_lock out h = refl
may_lock _ h = absurd (false≢true h)

pub may_try : (x : Course) → is_out x ≡ true → may_begin LockCall.Try x ≡ true
may_try out h = refl
may_try _ h = absurd (false≢true h)

pub may_poll : (x : Course) → is_waiting x ≡ true → may_begin LockCall.Poll x ≡ true
may_poll (waiting starved) h = refl
may_poll _ h = absurd (false≢true h)

pub may_cancel : (x : Course) → is_waiting x ≡ true → may_begin LockCall.Cancel x ≡ true
may_cancel (waiting starved) h = refl
may_cancel _ h = absurd (false≢true h)

pub may_release : (x : Course) → is_holding x ≡ true → may_begin LockCall.Release x ≡ true
may_release holding h = refl
may_release _ h = absurd (false≢true h)

-- what a party has, and where it is listed
pub out_unlisted : (x : Course) → is_out x ≡ true → listed x ≡ 0
out_unlisted out h = refl
out_unlisted _ h = absurd (false≢true h)

pub holding_unlisted : (x : Course) → is_holding x ≡ true → listed x ≡ 0
holding_unlisted holding h = refl
holding_unlisted _ h = absurd (false≢true h)

pub waiting_listed : (x : Course) → is_waiting x ≡ true → listed x ≡ 1
waiting_listed (waiting starved) h = refl
waiting_listed _ h = absurd (false≢true h)

pub listed_once : (x : Course) → listed x ≤ 1
listed_once (taking progress starved true told) = omega arith
listed_once (taking progress starved false told) = omega arith
listed_once _ = omega arith

pub out_free : (x : Course) → is_out x ≡ true → holds x ≡ 0
out_free out h = refl
out_free _ h = absurd (false≢true h)

pub holding_holds : (x : Course) → is_holding x ≡ true → holds x ≡ 1
holding_holds holding h = refl
holding_holds _ h = absurd (false≢true h)

pub waiting_free : (x : Course) → is_waiting x ≡ true → holds x ≡ 0
waiting_free (waiting starved) h = refl
waiting_free _ h = absurd (false≢true h)

pub releasing_free : (x : Course) → is_releasing x ≡ true → holds x ≡ 0
releasing_free releasing h = refl
releasing_free _ h = absurd (false≢true h)

pub out_unstarved : (x : Course) → is_out x ≡ true → is_counted x ≡ false
out_unstarved out h = refl
out_unstarved _ h = absurd (false≢true h)

pub holding_unstarved : (x : Course) → is_holding x ≡ true → is_counted x ≡ false
holding_unstarved holding h = refl
holding_unstarved _ h = absurd (false≢true h)

-- that it rests, and isn't about to be counted
pub out_rests : (x : Course) → is_out x ≡ true → is_resting x ≡ true
out_rests out h = refl
out_rests _ h = absurd (false≢true h)

pub holding_rests : (x : Course) → is_holding x ≡ true → is_resting x ≡ true
holding_rests holding h = refl
holding_rests _ h = absurd (false≢true h)

pub waiting_rests : (x : Course) → is_waiting x ≡ true → is_resting x ≡ true
waiting_rests (waiting starved) h = refl
waiting_rests _ h = absurd (false≢true h)

pub out_uncounted : (x : Course) → is_out x ≡ true → is_counting x ≡ false
out_uncounted out h = refl
out_uncounted _ h = absurd (false≢true h)

pub holding_uncounted : (x : Course) → is_holding x ≡ true → is_counting x ≡ false
holding_uncounted holding h = refl
holding_uncounted _ h = absurd (false≢true h)

pub waiting_uncounted : (x : Course) → is_waiting x ≡ true → is_counting x ≡ false
waiting_uncounted (waiting starved) h = refl
waiting_uncounted _ h = absurd (false≢true h)

-- on which end its call is decided
pub releasing_decided : (x : Course) → is_releasing x ≡ true → decision x ≡ Some GivenBack
releasing_decided releasing h = refl
releasing_decided _ h = absurd (false≢true h)

pub cancelling_decided : (x : Course) → is_cancelling x ≡ true → decision x ≡ Some GivenBack
cancelling_decided (cancelling starved) h = refl
cancelling_decided _ h = absurd (false≢true h)

-- a poll that is decided takes the lock, or is refused
abbrev pub IsPolls : Option End → Type 0
IsPolls o = (o ≡ None) ⊎ ((o ≡ Some Got) ⊎ ((r : Refusal) × (o ≡ Some (Refused r))))

pub taking_decided : (x : Course) → is_taking x ≡ true → IsPolls (decision x)
taking_decided (waiting starved) h = inl refl
taking_decided (taking undecided starved stands told) h = inl refl
taking_decided (taking called starved stands told) h = inl refl
taking_decided (taking counting starved stands told) h = inl refl
taking_decided (taking has_lock starved stands told) h = inr (inl refl)
taking_decided (taking (gives_up refusal) starved stands told) h = inr (inr (refusal, refl))
taking_decided _ h = absurd (false≢true h)

-- a new mutex: each party is out, nobody holds it, and nobody is starved
pub new_is_out : (parties limit p : ℕ) → is_out (course_at (new_mutex parties limit).courses p) ≡ true
new_is_out parties limit p = ap is_out (all_alike out parties p)

pub new_parties : (parties limit : ℕ) → length (new_mutex parties limit).courses ≡ parties
new_parties parties limit = length-replicate parties out

no_holder_from : (n k : ℕ) → holder_from k (replicate n out) ≡ None
no_holder_from zero k = refl
no_holder_from (suc n) k = no_holder_from n (k + 1)

pub new_has_no_holder : (parties limit : ℕ) → holder_of (new_mutex parties limit) ≡ None
new_has_no_holder parties limit = no_holder_from parties 0

none_counted : (n : ℕ) → map is_counted (replicate n out) ≡ replicate n false
none_counted zero = refl
none_counted (suc n) = ap (λ l. false ∷ l) (none_counted n)

pub new_has_none_starved : (parties limit : ℕ) → starved_of (new_mutex parties limit) ≡ replicate parties false
new_has_none_starved parties limit = none_counted parties

-- giving way, as Worlds say it
pub gave_way : (p : ℕ) (l m : Mutex) → GaveWay p l Pending m → 0 < entries_of p l.entries → bounds.GaveWay p (starved_of l) l.entries (starved_of m) m.entries
gave_way p l m g there = record {
  was_unstarved = sees.starved_at l.courses p ∙ ap is_counted g.unstarved_here;
  some_starved = rw (sees.how_many_counted l.courses) g.starved_there;
  is_starved = sees.starved_at m.courses p ∙ ap is_counted g.stands_back.0;
  as_long = g.stands_back.1;
  marked = g.notified (omega (arith, g.stands_back.1, some_listed p l.entries there));
  fewer = omega (arith, sees.unstarved_counted l.courses l.entries, sees.unstarved_counted m.courses m.entries, g.fewer);
}
