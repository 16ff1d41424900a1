-- What a table makes of a move is what callers make of it.
use Rattle.world_base.proofs.Prelude.{◌≡◌, ◌||◌, Bool, true, false, Option, Some, None, is_some, refl, Answer, Call, What, Begin, Go, Rest, Idle, Pending, Holding, Finished, Stage, Outside, Inside, Forgotten, Within, is_poll_after_ready, inside, is_decided, call_in, may_end, is_possible, is_stepped, decision, StandsAfter, stands_as, call_at, polls_again, stage_after}
use Rattle.world_base.specs.declared.moves.Call.TheVariants.{Poll}
use Rattle.world_base.specs.declared.standing.Kind.{Kind}

-- a call of this kind, begun where its party stood so
abbrev pub within : Kind → Rest → Within
within k r = record { kind = k; was = r }

-- the call that a move belongs to
pub call_seen : (knows : Call → Bool) (d : Option Answer) (s : Stage) (what : What) → call_in knows (stands_as d s) what ≡ call_at knows s what
call_seen knows d (Outside r) (Begin c i) = refl
call_seen knows d (Outside r) (Go i) = refl
call_seen knows d (Inside w) (Begin c i) = refl
call_seen knows d (Inside w) (Go i) = refl
call_seen knows d Forgotten (Begin c i) = refl
call_seen knows d Forgotten (Go i) = refl

-- a poll of a future that has been ready
pub again_seen : (d : Option Answer) (s : Stage) (what : What) → is_poll_after_ready (stands_as d s) what ≡ polls_again s what
again_seen d (Outside Holding) (Begin Poll i) = refl
again_seen d (Outside Finished) (Begin Poll i) = refl
again_seen d (Outside Holding) (Begin _ i) = refl
again_seen d (Outside Finished) (Begin _ i) = refl
again_seen d (Outside Holding) (Go i) = refl
again_seen d (Outside Finished) (Go i) = refl
again_seen d (Outside Idle) what = refl
again_seen d (Outside Pending) what = refl
again_seen d (Inside w) what = refl
again_seen d Forgotten what = refl

-- a possible answer that may end the call leaves its party as a call's end does
pub stands_seen : (ready : Rest) (w : Within) (a : Answer) (d : Option Answer) → is_possible a ≡ true → (is_stepped a ≡ false → may_end w.kind a ≡ true) → StandsAfter ready w a (stands_as d (stage_after ready w a))
stands_seen ready w Answer.Stepped d h ends = (d, refl)
stands_seen ready w Answer.NotPossible d h ends = absurd (cc)
stands_seen ready w _ d h ends = (ends refl, refl)

-- what a call is decided on after this answer, if its party is then to be answered so
abbrev pub decided_after : Answer → Option Answer → Option Answer
decided_after Answer.Stepped d = d
decided_after a d = Some a

pub decision_seen : (ready : Rest) (w : Within) (a : Answer) (d : Option Answer) → decision a (stands_as d (stage_after ready w a)) ≡ decided_after a d
decision_seen ready w Answer.Stepped d = refl
decision_seen ready w _ d = refl

-- what ends a first poll ends a later one
pub later_ends : (a : Answer) → may_end Kind.FirstPoll a ≡ true → may_end Kind.LaterPoll a ≡ true
later_ends Answer.Pending h = refl
later_ends (Answer.Ready got) h = refl
later_ends (Answer.Refused n) h = refl
later_ends _ h = absurd (cc)

-- a party inside a call is decided where the call is, and until then on nothing
pub decides_so : (w : Within) (o : Option Answer) → is_decided (inside w o) || false ≡ is_some o
decides_so w None = refl
decides_so w (Some b) = refl

pub undecided_so : (w : Within) (o : Option Answer) (b : Answer) → is_decided (inside w o) ≡ false → o ≡ Some b → b ≡ Answer.GivenBack
undecided_so w None b h e = absurd (cc)
undecided_so w (Some c) b h e = absurd (cc)
