-- What always holds of a barrier, as callers see it.
use Rattle.world_barrier.proofs.Prelude.{◌≡◌, ℕ, zero, suc, ◌<◌, true, false, List, [], ◌∷◌, refl, arith, sum_by, Entry, is_marked_at, IsMarkedFirst, is_party, entries_of, Queue, Course, holds, rests_there, Mutex, course_at, IsMutex, holders, out, out_free, waiting_free, holding_holds, out_rests, waiting_rests, Arrive, NotifyAll, Position, Out, Made, Locking, Waiting, At, Progress, Words, fits_lock, in_lock, is_late, will_tell, is_resting, IsKept, IsAtRest, IsBarrier, AllTold, position_at, arrival_at}
use Rattle.std.proofs.lemmas.List.Sums.{sum_by-cons}
use Rattle.world_base.proofs.of_queue.Marks.{else_marked}
use Rattle.world_base.proofs.of_table.Resting.{all_at_rest, one_at_rest}

-- a party without the inner lock is counted if it is listed, and is about to tell nobody
free_late : (x : Position) (c : Course) → fits_lock (in_lock x) c ≡ true → holds c ≡ 0 → is_late x ≡ false
free_late (At Arrive) c link free = let one = holding_holds c link in absurd (omega arith)
free_late (At _) c link free = refl
free_late _ c link free = refl

free_tells : (x : Position) (c : Course) → fits_lock (in_lock x) c ≡ true → holds c ≡ 0 → will_tell x ≡ false
free_tells (At NotifyAll) c link free = let one = holding_holds c link in absurd (omega arith)
free_tells (At _) c link free = refl
free_tells _ c link free = refl

-- a resting party rests in the inner lock without it
rest_free : (x : Position) (c : Course) → is_resting x ≡ true → fits_lock (in_lock x) c ≡ true → holds c ≡ 0
rest_free (At place) c h link = absurd (cc h)
rest_free (Locking a) c h link = waiting_free c link
rest_free Out c h link = out_free c link
rest_free (Made a) c h link = out_free c link
rest_free Waiting c h link = out_free c link

rest_rests : (x : Position) (c : Course) → is_resting x ≡ true → fits_lock (in_lock x) c ≡ true → rests_there c ≡ true
rest_rests (At place) c h link = absurd (cc h)
rest_rests (Locking a) c h link = waiting_rests c link
rest_rests Out c h link = out_rests c link
rest_rests (Made a) c h link = out_rests c link
rest_rests Waiting c h link = out_rests c link

none_hold : (cs : List Course) → ((q : ℕ) → holds (course_at cs q) ≡ 0) → sum_by holds cs ≡ 0
none_hold [] h = refl
none_hold (c ∷ cs) h = omega (arith, sum_by-cons holds c cs, h 0, none_hold cs (λ q. h (suc q)))

nobody_holds : (cs : List Course) → sum_by holds cs ≡ 0 → (q : ℕ) → holds (course_at cs q) ≡ 0
nobody_holds [] e q = refl
nobody_holds (c ∷ cs) e zero = omega (arith, sum_by-cons holds c cs, e)
nobody_holds (c ∷ cs) e (suc q) = nobody_holds cs (omega (arith, sum_by-cons holds c cs, e)) q

told_while_free : (w : Words) (xs : List Position) (rs : List Progress) (l : List (Entry ℕ)) (m : Mutex) → AllTold w xs rs l → ((q : ℕ) → fits_lock (in_lock (position_at xs q)) (course_at m.courses q) ≡ true) → holders m ≡ 0 → (p : ℕ) → 0 < entries_of p l → (arrival_at rs p).generation < w.progress.generation → is_marked_at (is_party p) l ≡ true
told_while_free w xs rs l m told links free p some done = else_marked p l some (λ u.
    let none : (q : ℕ) → holds (course_at m.courses q) ≡ 0 = nobody_holds m.courses free in
    let same : (arrival_at rs p).generation ≡ w.progress.generation = told (λ q. free_tells (position_at xs q) (course_at m.courses q) (links q) (none q)) p u (free_late (position_at xs p) (course_at m.courses p) (links p) (none p)) in
    omega arith)

pub is_barrier : (w : Words) (xs : List Position) (rs : List Progress) (q : Queue) (m : Mutex) → IsKept w xs rs q m → IsMutex m → IsMarkedFirst q.entries → IsBarrier (record { words = w; positions = xs; arrivals = rs; entries = q.entries; lock = m })
is_barrier w xs rs q m k mutex ordered =
    let free : IsAtRest xs → holders m ≡ 0 = λ rest. none_hold m.courses (λ j. rest_free (position_at xs j) (course_at m.courses j) (one_at_rest is_resting Out refl xs rest j) (k.links j)) in
    record {
      sound = k.sound;
      lock = mutex;
      links = k.links;
      owners = k.owners;
      in_order = ordered;
      as_many = k.arrivals;
      past = k.past;
      apart = k.apart;
      within = k.within;
      followers = k.followers;
      sure = k.sure;
      outcomes = k.outcomes;
      lock_free = free;
      lock_wakes = λ rest. mutex.wakes (all_at_rest rests_there out m.courses (λ j i. rest_rests (position_at xs j) (course_at m.courses j) (one_at_rest is_resting Out refl xs rest j) (k.links j))) (free rest);
      told = told_while_free w xs rs q.entries m k.told k.links;
    }
