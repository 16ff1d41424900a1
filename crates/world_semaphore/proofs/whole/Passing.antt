-- A poll or a drop of a pending party leaves some entry notified, if as many permits are available as somebody listed waits for, where one was.
use Rattle.world_semaphore.proofs.Prelude.{◌≡◌, ◌≢◌, ℕ, ◌<◌, ◌≤◌, ◌⊎◌, inl, inr, true, false, Bool, List, Some, None, refl, arith, ap, sym, ◌∙◌, subst, ℕ_discrete, Entry, marked_count, fitted, entries_of, Answer, Call, Inputs, What, Begin, Rest, Within, is_refusal, outside, inputs_of, is_stepped, moves_of, answers_of, some_eq, none_some, Table, Action, Found, Done, Left, Yes, Place, Take, Retake, Ask, Remove, Load, HandOn, PassOn, RefuseFit, FitAdded, FitGivenBack, Position, Waiting, At, Words, action_of, next_of, place_for, a_look, seat_of, size_at, listed, effect_of, Finds, words_after, entries_after, Semaphore, answer_by, position_at, sizes_of, World, standing_of, IsFreeAndWanted, Known, Runs, view_of}
use Rattle.world_semaphore.specs.machine.Seats.{size_of}
use Rattle.world_semaphore.proofs.of_machine.laws.Entries.{entries_of-fitted, fitted_marks, wanted_so}
use Rattle.world_semaphore.proofs.of_machine.laws.Kept.{after}
use Rattle.world_semaphore.proofs.table.Seen as seen
use Rattle.world_semaphore.proofs.laws.Sound.{some_wanted, wanted_there}
use Rattle.world_semaphore.proofs.step.Acting.{Acting}
use Rattle.world_semaphore.proofs.step.Acting as acting
use Rattle.world_semaphore.proofs.whole.Covers.{Covered, EndsCovered, CoversBy, covers}
use Rattle.world_semaphore.proofs.whole.Onwards.{along_acts}

-- whoever has told others stands for as many permits as before
pub tells_size : (x : Place) (f : Found) (c : ℕ) → action_of x ≡ Action.Fit c → size_at (after x f) ≡ size_of x
tells_size (HandOn k a) f c e = refl
tells_size (PassOn k a) f c e = refl
tells_size (RefuseFit k a) f c e = refl
tells_size (FitAdded a) f c e = refl
tells_size (FitGivenBack a) f c e = refl
tells_size _ f c e = absurd (cc e)

-- where somebody is wanted, some entry is marked
abbrev pub MarksWanted : Table Semaphore → Type 0
MarksWanted u = IsFreeAndWanted (view_of u) → 0 < marked_count u.machine.entries

abbrev pub IsCovered : Place → Table Semaphore → Type 0
IsCovered y t = Covered (seat_of y).debt (marked_count t.machine.entries) t.machine.words.available

pub fit_done : (memory : Bool) (p c : ℕ) (f : Found) (w : Words) (size : ℕ → ℕ) (l es : List (Entry ℕ)) → Finds memory p (Action.Fit c) f w l → es ≡ entries_after size p (effect_of (Action.Fit c) f) l → es ≡ fitted size c l
fit_done memory p c Done w size l es e is = is
fit_done memory p c _ w size l es e is = absurd e

module _ (p : ℕ) (t u : Table Semaphore) (what : What) (a : Answer) (w : Within) (k : Acting t u (record { party = p; what = what }) a w) where
  covered_so : IsCovered k.from t → CoversBy k.from (marked_count (entries_after (sizes_of t.machine.positions) p (effect_of (action_of k.from) k.found) t.machine.entries)) (words_after (effect_of (action_of k.from) k.found) t.machine.words).available (next_of k.from k.found)
  covered_so = covers (inputs_of what).memory p t.machine.words t.machine.entries (sizes_of t.machine.positions) k.from k.found k.acts.finds (acting.own_entries t u (record { party = p; what = what }) a w k)

  on_then : IsCovered k.from t → (z : Place) → after k.from k.found ≡ At z → IsCovered z u
  on_then h z e =
      let P : ℕ → ℕ → Type 0 = λ n b. Covered (seat_of z).debt n b in
      let Q : ℕ → Type 0 = λ n. P n u.machine.words.available in
      subst Q (sym (ap marked_count k.acts.entries)) (subst (P _) (sym (ap (λ (v : Words). v.available) k.acts.words)) ((covered_so h).0 z e))

  -- who has told others stands for as many permits as before
  pub same_sizes : (c : ℕ) → action_of k.from ≡ Action.Fit c → (q : ℕ) → sizes_of u.machine.positions q ≡ sizes_of t.machine.positions q
  same_sizes c e q = elim (ℕ_discrete q p) as (λ _. sizes_of u.machine.positions q ≡ sizes_of t.machine.positions q) [
    | yes is ↦ (let P : ℕ → Type 0 = λ j. sizes_of u.machine.positions j ≡ sizes_of t.machine.positions j in
        subst P (sym is) (ap size_at (acting.lands t u (record { party = p; what = what }) a w k) ∙ (tells_size k.from k.found c e ∙ sym (ap size_at (k.here.told c e)))))
    | no apart ↦ ap size_at (acting.stays t u (record { party = p; what = what }) a w k q apart)
  ]

  pub told_then : (c : ℕ) → action_of k.from ≡ Action.Fit c → u.machine.entries ≡ fitted (sizes_of t.machine.positions) c t.machine.entries
  told_then c e =
      let F : Action → Type 0 = λ b. Finds (inputs_of what).memory p b k.found t.machine.words t.machine.entries × (u.machine.entries ≡ entries_after (sizes_of t.machine.positions) p (effect_of b k.found) t.machine.entries) in
      let so : F (Action.Fit c) = subst F e (k.acts.finds, k.acts.entries) in
      fit_done (inputs_of what).memory p c k.found t.machine.words (sizes_of t.machine.positions) t.machine.entries u.machine.entries so.0 so.1

  by_end : EndsCovered k.from (marked_count u.machine.entries) u.machine.words.available → MarksWanted u
  by_end (inl marked) free = marked
  by_end (inr (inl none)) free =
      let who = wanted_there u k.new_laws k.new_fits free in
      let some = some_wanted u k.new_laws k.new_fits who.0 who.1 in
      absurd (omega (arith, none, some, who.2, seen.size_seen u who.0))
  by_end (inr (inr told)) free =
      let who = wanted_there u k.new_laws k.new_fits free in
      let c = u.machine.words.available in
      let es : u.machine.entries ≡ fitted (sizes_of t.machine.positions) c t.machine.entries = told_then c told in
      let listed : 0 < entries_of who.0 t.machine.entries = omega (arith, who.1, ap (entries_of who.0) es, entries_of-fitted (sizes_of t.machine.positions) c who.0 t.machine.entries) in
      let few : sizes_of t.machine.positions who.0 ≤ c = omega (arith, who.2, same_sizes c told who.0) in
      omega (arith, fitted_marks (sizes_of t.machine.positions) c t.machine.entries (wanted_so (sizes_of t.machine.positions) c who.0 t.machine.entries listed few), ap marked_count es)

  marks_then : IsCovered k.from t → is_stepped (answer_by (next_of k.from k.found)) ≡ false → MarksWanted u
  marks_then h ends =
      let P : ℕ → ℕ → Type 0 = λ n b. EndsCovered k.from n b in
      let Q : ℕ → Type 0 = λ n. P n u.machine.words.available in
      by_end (subst Q (sym (ap marked_count k.acts.entries)) (subst (P _) (sym (ap (λ (v : Words). v.available) k.acts.words)) ((covered_so h).1 ends)))

-- ---- whoever was notified before the call

covered_at_first : (y : Place) (t : Table Semaphore) → 0 < marked_count t.machine.entries → IsCovered y t
covered_at_first y t some = inl some

pub passes_on : (known : Known) (w : World) (p : ℕ) (c : Call) (i : Inputs) (n : ℕ) (a : Answer) (v : World) → Runs known w (moves_of p c i n) (answers_of n a) v → a ≢ Answer.Stepped → (c ≡ Call.Poll) ⊎ (c ≡ Call.Drop) → standing_of w p ≡ outside Rest.Pending
    → 0 < marked_count w.behind.machine.entries → MarksWanted v.behind
passes_on known w p c i n a v runs ended which pending some =
    along_acts p i IsCovered (λ b u. MarksWanted u) (λ t u what b x k is h. (on_then p t u what b x k h, marks_then p t u what b x k h)) c which known w n a v runs ended pending (λ from starts. covered_at_first from w.behind some)

-- ---- a poll that is refused

-- the party stands in the list, or is to be ready, and took no notification
abbrev pub is_quiet : Place → Bool
is_quiet (Retake k) = true
is_quiet (Ask k None) = true
is_quiet (Remove k None) = true
is_quiet _ = false

pub record Quiet (y : Place) (f : Found) : Type 0 where
  pub going : (z : Place) → after y f ≡ At z → (is_quiet z ≡ true) ⊎ ((seat_of z).debt ≡ a_look)
  pub ends : is_refusal (answer_by (next_of y f)) ≡ false

went : (y z : Place) → (is_quiet y ≡ true) ⊎ ((seat_of y).debt ≡ a_look) → At y ≡ At z → (is_quiet z ≡ true) ⊎ ((seat_of z).debt ≡ a_look)
went y z h e = let P : Place → Type 0 = λ z. (is_quiet z ≡ true) ⊎ ((seat_of z).debt ≡ a_look) in subst P (cc e) h

pub quietly : (y : Place) (f : Found) → is_quiet y ≡ true → Quiet y f
quietly (Retake k) (Left c) h = record { going = λ z e. went (Remove k None) z (inl refl) e; ends = refl }
quietly (Retake k) _ h = record { going = λ z e. went (Ask k None) z (inl refl) e; ends = refl }
quietly (Ask k None) Yes h = record { going = λ z e. went (Take k false true) z (inr refl) e; ends = refl }
quietly (Ask k None) _ h = record { going = λ z e. absurd (cc e); ends = refl }
quietly (Ask k (Some c)) f h = absurd (cc h)
quietly (Remove k None) Yes h = record { going = λ z e. went (Load k) z (inr refl) e; ends = refl }
quietly (Remove k None) _ h = record { going = λ z e. absurd (cc e); ends = refl }
quietly (Remove k (Some c)) f h = absurd (cc h)
quietly _ f h = absurd (cc h)

abbrev IsHanding : Place → Table Semaphore → Type 0
IsHanding y t = (is_quiet y ≡ true) ⊎ IsCovered y t

abbrev pub HandsOn : Answer → Table Semaphore → Type 0
HandsOn a u = is_refusal a ≡ true → MarksWanted u

module _ (p : ℕ) (t u : Table Semaphore) (what : What) (a : Answer) (w : Within) (k : Acting t u (record { party = p; what = what }) a w) where
  hands : IsHanding k.from t → ((z : Place) → after k.from k.found ≡ At z → IsHanding z u) × (is_stepped (answer_by (next_of k.from k.found)) ≡ false → HandsOn a u)
  hands (inl quiet) =
      let q = quietly k.from k.found quiet in (
        (λ z e. elim (q.going z e) as (λ _. IsHanding z u) [ inl h ↦ inl h | inr h ↦ inr (inr (inl h)) ]),
        (λ ends refused. (let never : is_refusal a ≡ false = ap is_refusal k.answer ∙ q.ends in absurd (cc (never, refused)))),
      )
  hands (inr h) = ((λ z e. inr (on_then p t u what a w k h z e)), (λ ends refused. marks_then p t u what a w k h ends))

listed_polls : (x : Position) (i : Inputs) (from : Place) → 0 < listed x → place_for (Begin Call.Poll i) x ≡ Some from → is_quiet from ≡ true
listed_polls (Waiting k) i from some starts = let same : Retake k ≡ from = some_eq starts in ap is_quiet (sym same)
listed_polls (At y) i from some starts = absurd (none_some starts)
listed_polls _ i from some starts = absurd (omega arith)

pub hands_on : (known : Known) (w : World) (p : ℕ) (i : Inputs) (n : ℕ) (a : Answer) (v : World) → Runs known w (moves_of p Call.Poll i n) (answers_of n a) v → a ≢ Answer.Stepped → standing_of w p ≡ outside Rest.Pending
    → 0 < listed (position_at w.behind.machine.positions p) → HandsOn a v.behind
hands_on known w p i n a v runs ended pending some =
    along_acts p i IsHanding HandsOn (λ t u what b x k is h. hands p t u what b x k h) Call.Poll (inl refl) known w n a v runs ended pending (λ from starts. inl (listed_polls (position_at w.behind.machine.positions p) i from some starts))
