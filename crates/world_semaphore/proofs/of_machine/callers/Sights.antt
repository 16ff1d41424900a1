-- What callers see of a party by its course, and where it stands.
use Rattle.world_semaphore.proofs.Prelude.{◌≡◌, ℕ, suc, [], ◌∷◌, length, Bool, true, false, List, map, Option, Some, None, refl, ap, mapped_at, same_test, Place, Take, Retake, Join, Ask, Remove, Load, HandOn, PassOn, RefuseFit, Try, Lower, GiveBack, Raise, GiveAdded, FitAdded, CancelRemove, CancelLoad, FitGivenBack, Abandon, Position, Out, Unlisted, Waiting, Holding, At, share_of, debt_at, size_at, listed, waits, is_resting, is_begun, position_at}
use Rattle.lock_program.specs.declared.end.End.{End}
use Rattle.lock_program.specs.declared.end.End.TheVariants.{Got, Granted, Pending, GivenBack, Refused}
use Rattle.lock_program.specs.declared.refusal.Refusal.{Refusal}
use Rattle.world_semaphore.specs.machine.Course as course
use Rattle.world_semaphore.specs.machine.Course.{Course}
use Rattle.world_semaphore.specs.machine.Permits.{course_at}
use Rattle.world_semaphore.specs.machine.Ranks.{left_at}
use Rattle.world_semaphore.specs.machine.Seen.{course_in, course_of, is_kept}

pub seen_at : (xs : List Position) (p : ℕ) → course_at (map course_of xs) p ≡ course_of (position_at xs p)
seen_at xs p = mapped_at course_of xs p Out

pub length_seen : (xs : List Position) → length (map course_of xs) ≡ length xs
length_seen [] = refl
length_seen (x ∷ xs) = ap (λ n. suc n) (length_seen xs)

pub share_seen : (x : Position) → course.share (course_of x) ≡ share_of x
share_seen Out = refl
share_seen (Unlisted k) = refl
share_seen (Waiting k) = refl
share_seen (Holding k) = refl
share_seen (At (Take k true told)) = refl
share_seen (At (Take k false true)) = refl
share_seen (At (Take k false false)) = refl
share_seen (At (Retake k)) = refl
share_seen (At (Join k (Some a))) = refl
share_seen (At (Join k None)) = refl
share_seen (At (Ask k (Some a))) = refl
share_seen (At (Ask k None)) = refl
share_seen (At (Remove k (Some a))) = refl
share_seen (At (Remove k None)) = refl
share_seen (At (Load k)) = refl
share_seen (At (HandOn k a)) = refl
share_seen (At (PassOn k a)) = refl
share_seen (At (RefuseFit k a)) = refl
share_seen (At (Try k)) = refl
share_seen (At (Lower k)) = refl
share_seen (At (GiveBack k)) = refl
share_seen (At (Raise n)) = refl
share_seen (At (GiveAdded n)) = refl
share_seen (At (FitAdded a)) = refl
share_seen (At CancelRemove) = refl
share_seen (At CancelLoad) = refl
share_seen (At (FitGivenBack a)) = refl
share_seen (At Abandon) = refl

pub listed_seen : (x : Position) → course.listed (course_of x) ≡ listed x
listed_seen Out = refl
listed_seen (Unlisted k) = refl
listed_seen (Waiting k) = refl
listed_seen (Holding k) = refl
listed_seen (At (Take k true told)) = refl
listed_seen (At (Take k false true)) = refl
listed_seen (At (Take k false false)) = refl
listed_seen (At (Retake k)) = refl
listed_seen (At (Join k (Some a))) = refl
listed_seen (At (Join k None)) = refl
listed_seen (At (Ask k (Some a))) = refl
listed_seen (At (Ask k None)) = refl
listed_seen (At (Remove k (Some a))) = refl
listed_seen (At (Remove k None)) = refl
listed_seen (At (Load k)) = refl
listed_seen (At (HandOn k a)) = refl
listed_seen (At (PassOn k a)) = refl
listed_seen (At (RefuseFit k a)) = refl
listed_seen (At (Try k)) = refl
listed_seen (At (Lower k)) = refl
listed_seen (At (GiveBack k)) = refl
listed_seen (At (Raise n)) = refl
listed_seen (At (GiveAdded n)) = refl
listed_seen (At (FitAdded a)) = refl
listed_seen (At CancelRemove) = refl
listed_seen (At CancelLoad) = refl
listed_seen (At (FitGivenBack a)) = refl
listed_seen (At Abandon) = refl

pub debt_seen : (x : Position) → course.debt (course_of x) ≡ debt_at x
debt_seen Out = refl
debt_seen (Unlisted k) = refl
debt_seen (Waiting k) = refl
debt_seen (Holding k) = refl
debt_seen (At (Take k true told)) = refl
debt_seen (At (Take k false true)) = refl
debt_seen (At (Take k false false)) = refl
debt_seen (At (Retake k)) = refl
debt_seen (At (Join k (Some a))) = refl
debt_seen (At (Join k None)) = refl
debt_seen (At (Ask k (Some a))) = refl
debt_seen (At (Ask k None)) = refl
debt_seen (At (Remove k (Some a))) = refl
debt_seen (At (Remove k None)) = refl
debt_seen (At (Load k)) = refl
debt_seen (At (HandOn k a)) = refl
debt_seen (At (PassOn k a)) = refl
debt_seen (At (RefuseFit k a)) = refl
debt_seen (At (Try k)) = refl
debt_seen (At (Lower k)) = refl
debt_seen (At (GiveBack k)) = refl
debt_seen (At (Raise n)) = refl
debt_seen (At (GiveAdded n)) = refl
debt_seen (At (FitAdded a)) = refl
debt_seen (At CancelRemove) = refl
debt_seen (At CancelLoad) = refl
debt_seen (At (FitGivenBack a)) = refl
debt_seen (At Abandon) = refl

pub size_seen : (x : Position) → is_kept x ≡ true → course.size (course_of x) ≡ size_at x
size_seen Out h = refl
size_seen (Unlisted k) h = refl
size_seen (Waiting k) h = refl
size_seen (Holding k) h = refl
size_seen (At (Take k true told)) h = refl
size_seen (At (Take k false true)) h = refl
size_seen (At (Take k false false)) h = absurd (cc h)
size_seen (At (Retake k)) h = absurd (cc h)
size_seen (At (Join k (Some a))) h = refl
size_seen (At (Join k None)) h = refl
size_seen (At (Ask k (Some a))) h = refl
size_seen (At (Ask k None)) h = refl
size_seen (At (Remove k (Some a))) h = refl
size_seen (At (Remove k None)) h = refl
size_seen (At (Load k)) h = refl
size_seen (At (HandOn k a)) h = refl
size_seen (At (PassOn k a)) h = refl
size_seen (At (RefuseFit k a)) h = refl
size_seen (At (Try k)) h = absurd (cc h)
size_seen (At (Lower k)) h = absurd (cc h)
size_seen (At (GiveBack k)) h = absurd (cc h)
size_seen (At (Raise n)) h = absurd (cc h)
size_seen (At (GiveAdded n)) h = refl
size_seen (At (FitAdded a)) h = refl
size_seen (At CancelRemove) h = absurd (cc h)
size_seen (At CancelLoad) h = refl
size_seen (At (FitGivenBack a)) h = refl
size_seen (At Abandon) h = absurd (cc h)

pub rests_seen : (x : Position) → is_kept x ≡ true → course.is_resting (course_of x) ≡ is_resting x
rests_seen Out h = refl
rests_seen (Unlisted k) h = refl
rests_seen (Waiting k) h = refl
rests_seen (Holding k) h = refl
rests_seen (At (Take k true told)) h = refl
rests_seen (At (Take k false true)) h = refl
rests_seen (At (Take k false false)) h = absurd (cc h)
rests_seen (At (Retake k)) h = absurd (cc h)
rests_seen (At (Join k (Some a))) h = refl
rests_seen (At (Join k None)) h = refl
rests_seen (At (Ask k (Some a))) h = refl
rests_seen (At (Ask k None)) h = refl
rests_seen (At (Remove k (Some a))) h = refl
rests_seen (At (Remove k None)) h = refl
rests_seen (At (Load k)) h = refl
rests_seen (At (HandOn k a)) h = refl
rests_seen (At (PassOn k a)) h = refl
rests_seen (At (RefuseFit k a)) h = refl
rests_seen (At (Try k)) h = absurd (cc h)
rests_seen (At (Lower k)) h = absurd (cc h)
rests_seen (At (GiveBack k)) h = absurd (cc h)
rests_seen (At (Raise n)) h = absurd (cc h)
rests_seen (At (GiveAdded n)) h = refl
rests_seen (At (FitAdded a)) h = refl
rests_seen (At CancelRemove) h = absurd (cc h)
rests_seen (At CancelLoad) h = refl
rests_seen (At (FitGivenBack a)) h = refl
rests_seen (At Abandon) h = absurd (cc h)

pub rank_seen : (x : Position) (b : Bool) → is_kept x ≡ true → course.left (course_of x) b ≡ left_at x b
rank_seen Out b h = refl
rank_seen (Unlisted k) b h = refl
rank_seen (Waiting k) b h = refl
rank_seen (Holding k) b h = refl
rank_seen (At (Take k true told)) b h = refl
rank_seen (At (Take k false true)) b h = refl
rank_seen (At (Take k false false)) b h = absurd (cc h)
rank_seen (At (Retake k)) b h = absurd (cc h)
rank_seen (At (Join k (Some a))) b h = refl
rank_seen (At (Join k None)) b h = refl
rank_seen (At (Ask k (Some a))) b h = refl
rank_seen (At (Ask k None)) b h = refl
rank_seen (At (Remove k (Some a))) b h = refl
rank_seen (At (Remove k None)) b h = refl
rank_seen (At (Load k)) b h = refl
rank_seen (At (HandOn k a)) b h = refl
rank_seen (At (PassOn k a)) b h = refl
rank_seen (At (RefuseFit k a)) b h = refl
rank_seen (At (Try k)) b h = absurd (cc h)
rank_seen (At (Lower k)) b h = absurd (cc h)
rank_seen (At (GiveBack k)) b h = absurd (cc h)
rank_seen (At (Raise n)) b h = absurd (cc h)
rank_seen (At (GiveAdded n)) b h = refl
rank_seen (At (FitAdded a)) b h = refl
rank_seen (At CancelRemove) b h = absurd (cc h)
rank_seen (At CancelLoad) b h = refl
rank_seen (At (FitGivenBack a)) b h = refl
rank_seen (At Abandon) b h = absurd (cc h)

-- who waits there has looked
pub waits_seen : (x : Position) → is_kept x ≡ true → course.is_waiting (course_of x) ≡ true → waits (size_at x) x ≡ 1
waits_seen Out h g = absurd (cc g)
waits_seen (Unlisted k) h g = absurd (cc g)
waits_seen (Waiting k) h g = rw (same_test k k refl) refl
waits_seen (Holding k) h g = absurd (cc g)
waits_seen (At (Take k true told)) h g = absurd (cc g)
waits_seen (At (Take k false true)) h g = absurd (cc g)
waits_seen (At (Take k false false)) h g = absurd (cc h)
waits_seen (At (Retake k)) h g = absurd (cc h)
waits_seen (At (Join k (Some a))) h g = absurd (cc g)
waits_seen (At (Join k None)) h g = absurd (cc g)
waits_seen (At (Ask k (Some a))) h g = rw (same_test k k refl) refl
waits_seen (At (Ask k None)) h g = rw (same_test k k refl) refl
waits_seen (At (Remove k (Some a))) h g = absurd (cc g)
waits_seen (At (Remove k None)) h g = absurd (cc g)
waits_seen (At (Load k)) h g = absurd (cc g)
waits_seen (At (HandOn k a)) h g = absurd (cc g)
waits_seen (At (PassOn k a)) h g = rw (same_test k k refl) refl
waits_seen (At (RefuseFit k a)) h g = absurd (cc g)
waits_seen (At (Try k)) h g = absurd (cc h)
waits_seen (At (Lower k)) h g = absurd (cc h)
waits_seen (At (GiveBack k)) h g = absurd (cc h)
waits_seen (At (Raise n)) h g = absurd (cc h)
waits_seen (At (GiveAdded n)) h g = absurd (cc g)
waits_seen (At (FitAdded a)) h g = absurd (cc g)
waits_seen (At CancelRemove) h g = absurd (cc h)
waits_seen (At CancelLoad) h g = absurd (cc g)
waits_seen (At (FitGivenBack a)) h g = absurd (cc g)
waits_seen (At Abandon) h g = absurd (cc h)

-- the end on which the call is decided of a party at a place
abbrev pub end_of : Place → Option End
end_of (Remove k more) = Some Got
end_of (Load k) = Some Got
end_of (HandOn k a) = Some Got
end_of (PassOn k a) = Some Pending
end_of (RefuseFit k a) = Some (Refused Refusal.Memory)
end_of (Lower k) = Some GivenBack
end_of (GiveBack k) = Some GivenBack
end_of (GiveAdded n) = Some Granted
end_of (FitAdded a) = Some Granted
end_of CancelRemove = Some GivenBack
end_of CancelLoad = Some GivenBack
end_of (FitGivenBack a) = Some GivenBack
end_of Abandon = Some GivenBack
end_of _ = None

pub end_seen : (x : Place) → is_begun x ≡ true → course.decision (course_in x) ≡ end_of x
end_seen (Take k true told) h = refl
end_seen (Take k false true) h = refl
end_seen (Take k false false) h = absurd (cc h)
end_seen (Retake k) h = absurd (cc h)
end_seen (Join k (Some a)) h = refl
end_seen (Join k None) h = refl
end_seen (Ask k (Some a)) h = refl
end_seen (Ask k None) h = refl
end_seen (Remove k (Some a)) h = refl
end_seen (Remove k None) h = refl
end_seen (Load k) h = refl
end_seen (HandOn k a) h = refl
end_seen (PassOn k a) h = refl
end_seen (RefuseFit k a) h = refl
end_seen (Try k) h = absurd (cc h)
end_seen (Lower k) h = absurd (cc h)
end_seen (GiveBack k) h = absurd (cc h)
end_seen (Raise n) h = absurd (cc h)
end_seen (GiveAdded n) h = refl
end_seen (FitAdded a) h = refl
end_seen CancelRemove h = absurd (cc h)
end_seen CancelLoad h = refl
end_seen (FitGivenBack a) h = refl
end_seen Abandon h = absurd (cc h)
