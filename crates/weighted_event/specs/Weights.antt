-- Lists whose entries have weights: who is told when so many are available.
use Rattle.std.specs.Prelude.{ℕ, Bool, false, ◌||◌, ◌==◌, nat_le, if◌then◌else◌, List, [], ◌∷◌}
use Rattle.lock_event.specs.declared.event.Entry.{Entry}
use Rattle.lock_event.specs.declared.event.Mark.TheVariants.{Notified}
use Rattle.lock_event.specs.Lists.{entry, is_marked, marked_count}

module _ {K : Type 0} (weight : K → ℕ) where
  -- So many are enough for the entry.
  abbrev pub is_enough : ℕ → Entry K → Bool
  is_enough a e = nat_le (weight e.key) a

  -- The list where the first waiting entry that so many are enough for is notified, if there is one.
  abbrev pub fit_first : ℕ → List (Entry K) → List (Entry K)
  fit_first a [] = []
  fit_first a (e ∷ es) = if is_marked e.mark then e ∷ fit_first a es else (if is_enough a e then entry e.key Notified ∷ es else e ∷ fit_first a es)

  -- The same where no entry is marked; else nothing happens.
  abbrev pub fitted : ℕ → List (Entry K) → List (Entry K)
  fitted a l = if marked_count l == 0 then fit_first a l else l

  -- So many are enough for some entry, marked or not.
  abbrev pub is_wanted : ℕ → List (Entry K) → Bool
  is_wanted a [] = false
  is_wanted a (e ∷ es) = is_enough a e || is_wanted a es
