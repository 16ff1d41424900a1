-- Each step on the table keeps its rule.
use Rattle.std.proofs.Common.{◌≡◌, ◌≢◌, ℕ, zero, suc, ◌+◌, ◌-◌, ◌/◌, ◌%◌, ◌^◌, ◌<◌, ◌≤◌, ◌==◌, eqb, eq-eqb, ne_eqb, bit_or, lt_of_not-le, Bool, true, false, List, [], ◌∷◌, ◌++◌, length, get_or, set, sym, refl, ap, ◌∙◌, subst, arith, ⊎_elim, inl, inr, length-set, get_or-set_same, get_or-set_other}
use mathlib.Core.Option.{Option, none, some, some-injective, some-ne-none}
use mathlib.Core.Logic.{dite}
use native.Mathlib.Decide.{dec_le, ℕ_discrete}
use prog.Atomic.{either}
use lib.ListN.{get_elem?}
use Rattle.atomic_table.specs.Table.{State, Me, Act, keeps, takes, gives, stepped, homes_after, put_back, rest, opening, Enters, Allows}
use Rattle.atomic_table.proofs.Lists.{set_here, set_else, at_set, at_snoc}
use Rattle.lock_place.specs.Held.{RoomId}
use Rattle.words_base.specs.Sums.{weight, number}
use Rattle.words_base.specs.MutexWord.{IsWord}
use Rattle.words_base.specs.Waiting.{Has, IsNew, Matched, all_but, last_of}
use Rattle.words_base.proofs.Waiting.{last-pushed, length-pushed, no-longer}
use Rattle.words_base.proofs.Matched.{nobody_stands, longer, kept, joined, left, at_most}
use Rattle.words_base.proofs.MutexWord as word
use Rattle.words_base.proofs.MutexWord.{or_one}
use Rattle.words_base.proofs.Sums.{number-set, number-at, number-none}
use Rattle.words_mutex.specs.Rule.{first_view, is_holder, is_starved, is_owing, is_listed, is_fresh, has_list_out, KeepsPlace, IsListWord, LosesNone, SaysEmpty, IsKeyed, IsEntryOf, Ruled}
use Rattle.words_mutex.specs.Seats.{saw_held_of, saw_starved_of, saw_of, got_of, cleared_of, counted_listed_of, counted_unlisted_of, uncounted_of, listing_of, back, joined_of, told_of, paid_of, gone_of, looking, peeking}
use Rattle.words_mutex.specs.Steps.{Looked, Got, Grabbed, Kept}
use Rattle.words_mutex.specs.declared.view.View.{View}
use Rattle.words_mutex.proofs.Flags.{never, by_flag, number-some, number-zero, number-below, and_true, and_false, many-owes, SetsLow}

abbrev most : ℕ
most = 1073741823

-- what a look makes of a view, by what it found
owes_fresh : (v : View) (b c b' c' : Bool) → b ≡ b' → c ≡ c' → (record v { owes = b; fresh = c }) ≡ (record v { owes = b'; fresh = c' })
owes_fresh v b c b' c' e f = ap (λ (a : Bool). record v { owes = a; fresh = c }) e ∙ ap (λ (a : Bool). record v { owes = b'; fresh = a }) f

pub looking-held : (n : ℕ) (v : View) → n % 2 ≢ 0 → looking n v ≡ saw_held_of n v
looking-held n v odd = owes_fresh (saw_of n v) _ _ _ _ (and_false v.owes (n % 2 == 0) (ne_eqb (n % 2) 0 odd)) (and_false v.fresh (n == 0) (ne_eqb n 0 (λ z. odd (ap (λ k. k % 2) z))))

pub looking-starved : (n : ℕ) (v : View) → n % 2 ≡ 0 → n ≢ 0 → looking n v ≡ saw_starved_of n v
looking-starved n v even ne = owes_fresh (saw_of n v) _ _ _ _ (and_true v.owes (n % 2 == 0) (eq-eqb (n % 2) 0 even)) (and_false v.fresh (n == 0) (ne_eqb n 0 ne))

pub looking-free : (n : ℕ) (v : View) → n ≡ 0 → looking n v ≡ saw_of n v
looking-free n v z = owes_fresh (saw_of n v) _ _ _ _ (and_true v.owes (n % 2 == 0) (eq-eqb (n % 2) 0 (ap (λ k. k % 2) z))) (and_true v.fresh (n == 0) (eq-eqb n 0 z))

pub looked-is : {S : Type 0} (n : ℕ) (m : Me S View) → Looked m n (looking n m.0, m.1)
looked-is n m = (
  (λ odd. ap (λ (v : View). (v, m.1)) (looking-held n m.0 (λ z. omega (arith, odd, z)))),
  (λ even ne. ap (λ (v : View). (v, m.1)) (looking-starved n m.0 even ne)),
  (λ z. ap (λ (v : View). (v, m.1)) (looking-free n m.0 z)),
)

module _ (S : Type 0) (entries_of : S → List ℕ) (marked_of : S → ℕ) (is_right : RoomId → ℕ → S → Type 0) (room : RoomId) (deed : ℕ) where
  abbrev len_of : S → ℕ
  len_of list = length (entries_of list)

  abbrev St : Type 0
  St = State S View

  abbrev M : Type 0
  M = Me S View

  abbrev R : St → Type 0
  R = Ruled entries_of marked_of is_right room deed

  abbrev first : View
  first = first_view room deed

  nothing : KeepsPlace first
  nothing = ((λ f. never f), (λ st _ _. never st))

  -- what is so of the first seat is so of all seats at the start
  at_first : (P : View → Type 0) → P first → (i : ℕ) (v : View) → get_elem? (first ∷ []) i ≡ some v → P v
  at_first P good zero v e = subst P (some-injective first v e) good
  at_first P good (suc i) v e = absurd (some-ne-none v (sym e))

  -- the table at the start
  pub opens : (list right : S) → entries_of list ≡ [] → is_right room deed right → R (opening (0 ∷ 0 ∷ []) (list ∷ right ∷ []) first)
  opens list right is good = let none_there : len_of list ≡ 0 = ap length is in record {
    word = (omega arith, omega arith, omega arith, refl);
    list_word = (omega arith, omega arith, refl);
    entries = entries_of list;
    marked = marked_of list;
    stands = at_first KeepsPlace nothing;
    keyed = at_first (IsKeyed room deed) (refl, refl);
    matched = nobody_stands IsEntryOf first (entries_of list) is (λ n q. never q.0);
    wakes = inr (omega arith);
    unlisted = λ _. is;
    home = λ _. (list, refl, refl, refl);
    out = at_first (λ (v : View). v.has_list ≡ true → (v.entries ≡ entries_of list) × (v.marked ≡ marked_of list)) (λ is. never is);
    right = λ _. (right, refl, good);
  }

  module _ (s : St) (id : ℕ) (me : M) (r : R s) (at : get_elem? s.views id ≡ some me.0) where
    abbrev x : ℕ
    x = get_or s.words 0 0

    abbrev y : ℕ
    y = get_or s.words 1 0

    abbrev after : View → List View
    after w = set s.views id w

    abbrev len : ℕ
    len = length r.entries

    mine : KeepsPlace me.0
    mine = r.stands id me.0 at

    -- the seats keep their entries
    matched_as : (w : View) → w.listed ≡ me.0.listed → w.entry ≡ me.0.entry → Matched IsEntryOf r.entries (after w)
    matched_as w l e = kept IsEntryOf r.entries s.views id me.0 at r.matched w (λ n is. (l ∙ is.0, e ∙ is.1)) (λ n is. (sym l ∙ is.0, sym e ∙ is.1))

    stands_set : (w : View) → KeepsPlace w → (i : ℕ) (v : View) → get_elem? (after w) i ≡ some v → KeepsPlace v
    stands_set w good i v e = ⊎_elim (λ here. subst KeepsPlace here.1 good) (λ else. r.stands i v else.1) (at_set s.views id i w v e)

    out_set : (w : View) → (w.has_list ≡ true → (w.entries ≡ r.entries) × (w.marked ≡ r.marked)) → (i : ℕ) (v : View) → get_elem? (after w) i ≡ some v → v.has_list ≡ true → (v.entries ≡ r.entries) × (v.marked ≡ r.marked)
    out_set w good i v e is = ⊎_elim (λ here. subst (λ (u : View). (u.entries ≡ r.entries) × (u.marked ≡ r.marked)) here.1 (good (ap (λ (u : View). u.has_list) here.1 ∙ is))) (λ else. r.out i v else.1 is) (at_set s.views id i w v e)

    -- who holds, who owes and who has not looked stay
    wakes-same : (w : View) → w.holds ≡ me.0.holds → w.owes ≡ me.0.owes → w.fresh ≡ me.0.fresh → LosesNone len r.marked (after w)
    wakes-same w hs os fs =
        let h = number-set is_holder s.views id me.0 w at in let o = number-set is_owing s.views id me.0 w at in let f = number-set is_fresh s.views id me.0 w at in
        let h' : weight (is_holder w) ≡ weight (is_holder me.0) = ap weight hs in let o' : weight (is_owing w) ≡ weight (is_owing me.0) = ap weight os in let f' : weight (is_fresh w) ≡ weight (is_fresh me.0) = ap weight fs in
        ⊎_elim (λ a. inl (omega arith)) (λ b. inr (omega arith)) r.wakes

    owing-after : (w : View) → w.owes ≡ true → 1 ≤ number is_owing (after w)
    owing-after w os =
        let o = number-set is_owing s.views id me.0 w at in let m = number-at is_owing s.views id me.0 at in
        let o' : weight (is_owing w) ≡ 1 = ap weight os in omega arith

    wakes-owing : (k marked : ℕ) (w : View) → w.owes ≡ true → LosesNone k marked (after w)
    wakes-owing n marked w os = let k = owing-after w os in inl (omega arith)

    wakes-held : (w : View) → x % 2 ≢ 0 → w.holds ≡ me.0.holds → LosesNone len r.marked (after w)
    wakes-held w odd hs =
        let h = number-set is_holder s.views id me.0 w at in let h' : weight (is_holder w) ≡ weight (is_holder me.0) = ap weight hs in
        let one = r.word.1 in let is = r.word.3 in
        let somebody : number is_holder s.views ≡ 1 = dite (ℕ_discrete (number is_holder s.views) 0) (λ absent. absurd (odd (omega arith))) (λ ne. omega arith) in inl (omega arith)

    mine_keyed : IsKeyed room deed me.0
    mine_keyed = r.keyed id me.0 at

    keyed_set : (w : View) → IsKeyed room deed w → (i : ℕ) (v : View) → get_elem? (after w) i ≡ some v → IsKeyed room deed v
    keyed_set w good i v e = ⊎_elim (λ here. subst (IsKeyed room deed) here.1 good) (λ else. r.keyed i v else.1) (at_set s.views id i w v e)

    -- what a step on the word 0 leaves of a seat
    abbrev Leaves : View → Type 0
    Leaves w = (w.has_list ≡ me.0.has_list) × (w.entries ≡ me.0.entries) × (w.marked ≡ me.0.marked) × (w.listed ≡ me.0.listed) × IsKeyed me.0.room me.0.deed w × (w.entry ≡ me.0.entry)

    left_keyed : (w : View) → IsKeyed me.0.room me.0.deed w → IsKeyed room deed w
    left_keyed w same = (same.0 ∙ mine_keyed.0, same.1 ∙ mine_keyed.1)

    -- the right lies in its slot
    abbrev pub Lies : List (Option S) → Type 0
    Lies homes = (right : S) × (get_elem? homes 1 ≡ some (some right)) × is_right room deed right

    same_holders : (w : View) → w.holds ≡ me.0.holds → number is_holder (after w) ≡ number is_holder s.views
    same_holders w hs = let h = number-set is_holder s.views id me.0 w at in let h' : weight (is_holder w) ≡ weight (is_holder me.0) = ap weight hs in omega arith

    -- the mutex's word becomes n; what is known of the list stays
    moved : (n : ℕ) (w : View) (a : Act S) → IsWord is_holder is_starved most 0 (set s.words 0 n) (after w) → Leaves w → get_elem? (homes_after s.homes me.1 a) 0 ≡ get_elem? s.homes 0
        → (number is_holder (after w) ≡ 0 → Lies (homes_after s.homes me.1 a)) → KeepsPlace w → LosesNone len r.marked (after w) → R (stepped s 0 n id me.1 w a)
    moved n w a good left home right stands wakes =
        let c = number-set has_list_out s.views id me.0 w at in let l' : weight (has_list_out w) ≡ weight (has_list_out me.0) = ap weight left.0 in
        let lw = r.list_word in
        let there : get_or (set s.words 0 n) 1 0 ≡ y = get_or-set_other s.words 0 1 n 0 (λ q. omega arith) in record {
          word = good;
          list_word = (subst (λ (z : ℕ). 1 < z) (sym (length-set s.words 0 n)) lw.0, (let a = lw.1 in omega arith), (let a = lw.2 in omega arith));
          entries = r.entries;
          marked = r.marked;
          stands = stands_set w stands;
          keyed = keyed_set w (left_keyed w left.4);
          matched = matched_as w left.3 left.5;
          wakes = wakes;
          unlisted = λ below. r.unlisted (subst SaysEmpty there below);
          home = λ absent. let h = r.home (omega arith) in (h.0, home ∙ h.1, h.2, h.3);
          out = out_set w (λ is. let o = r.out id me.0 at (sym left.0 ∙ is) in (left.1 ∙ o.0, left.2 ∙ o.1));
          right = right;
        }

    -- and so does the right
    unmoved : (n : ℕ) (w : View) → IsWord is_holder is_starved most 0 (set s.words 0 n) (after w) → Leaves w → w.holds ≡ me.0.holds → KeepsPlace w → LosesNone len r.marked (after w) → R (stepped s 0 n id me.1 w keeps)
    unmoved n w good left hs stands wakes = moved n w keeps good left refl (λ absent. r.right (sym (same_holders w hs) ∙ absent)) stands wakes

    -- A look finds the lock held: the seat owes nothing any more, and has looked. Who is counted as starved has an entry.
    abbrev pub saw_held : View
    saw_held = saw_held_of x me.0

    pub sees_held : x % 2 ≢ 0 → (me.0.starved ≡ true → me.0.listed ≡ true) → R (stepped s 0 x id me.1 saw_held keeps)
    sees_held odd has = let w : View = saw_held in
        unmoved x w (word.stays is_holder is_starved most 0 s.words s.views id me.0 w r.word at refl refl) (refl, refl, refl, refl, (refl, refl), refl) refl
        ((λ f. never f), (λ st _ _. (has st, refl))) (wakes-held w odd refl)

    -- A look finds the lock free and others starved: the seat has looked, and owes as it did.
    abbrev pub saw_starved : View
    saw_starved = saw_starved_of x me.0

    starving : x % 2 ≡ 0 → x ≢ 0 → (number is_owing s.views ≡ 0) → number is_fresh s.views + 1 ≤ number is_listed s.views
    starving even ne idle =
        let one = r.word.1 in let is = r.word.3 in
        let nobody : number is_holder s.views ≡ 0 = omega arith in
        let many : 1 ≤ number is_starved s.views = dite (ℕ_discrete (number is_starved s.views) 0) (λ z. absurd (ne (omega arith))) (λ q. omega arith) in
        let c = number-some is_starved s.views many in
        let stands = (r.stands c.0 c.1 c.2).1 c.3 (number-zero is_owing s.views c.0 c.1 c.2 idle) (number-zero is_holder s.views c.0 c.1 c.2 nobody) in
        number-below is_fresh is_listed s.views (λ i v e f. (r.stands i v e).0 f) c.0 c.1 c.2 stands.0 stands.1

    pub sees_starved : x % 2 ≡ 0 → x ≢ 0 → R (stepped s 0 x id me.1 saw_starved keeps)
    sees_starved even ne = let w : View = saw_starved in
        let o = number-set is_owing s.views id me.0 w at in let o' : weight (is_owing w) ≡ weight (is_owing me.0) = refl in
        let h = number-set is_holder s.views id me.0 w at in let h' : weight (is_holder w) ≡ weight (is_holder me.0) = refl in
        unmoved x w (word.stays is_holder is_starved most 0 s.words s.views id me.0 w r.word at refl refl) (refl, refl, refl, refl, (refl, refl), refl) refl
        ((λ f. never f), (λ st ow ho. ((mine.1 st ow ho).0, refl)))
        (⊎_elim (λ a. inl (omega arith))
        (λ b. dite (ℕ_discrete (number is_owing s.views) 0) (λ idle. let k = starving even ne idle in let p = at_most is_listed (λ (v : View). v.entry) r.entries s.views r.matched in absurd (omega arith)) (λ q. inl (omega arith))) r.wakes)

    -- nothing changes
    pub still : R (stepped s 0 x id me.1 me.0 keeps)
    still = unmoved x me.0 (word.stays is_holder is_starved most 0 s.words s.views id me.0 me.0 r.word at refl refl) (refl, refl, refl, refl, (refl, refl), refl) refl mine (wakes-same me.0 refl refl refl)

    -- nothing changes but what the seat found
    pub saw : R (stepped s 0 x id me.1 (saw_of x me.0) keeps)
    saw = let w : View = saw_of x me.0 in unmoved x w (word.stays is_holder is_starved most 0 s.words s.views id me.0 w r.word at refl refl) (refl, refl, refl, refl, (refl, refl), refl) refl mine (wakes-same w refl refl refl)

    -- a look, whatever it finds
    pub looks : (me.0.starved ≡ true → me.0.listed ≡ true) → R (stepped s 0 x id me.1 (looking x me.0) keeps)
    looks has = dite (ℕ_discrete (x % 2) 0)
        (λ even. dite (ℕ_discrete x 0)
        (λ zero. subst (λ (v : View). R (stepped s 0 x id me.1 v keeps)) (sym (looking-free x me.0 zero)) saw)
        (λ ne. subst (λ (v : View). R (stepped s 0 x id me.1 v keeps)) (sym (looking-starved x me.0 even ne)) (sees_starved even ne)))
        (λ odd. subst (λ (v : View). R (stepped s 0 x id me.1 v keeps)) (sym (looking-held x me.0 odd)) (sees_held odd has))

    abbrev pub got : ℕ → View
    got n = got_of n me.0

    -- the right of a free lock
    pub lent : x % 2 ≡ 0 → Lies s.homes
    lent even = r.right (word.nobody is_holder is_starved most 0 s.words s.views id me.0 me.0 r.word at even)

    pub gets : (n : ℕ) (even : x % 2 ≡ 0) → R (stepped s 0 (x + 1) id me.1 (got n) (takes 1 (lent even).0))
    gets n even = let w : View = got n in
        let gone = word.gets is_holder is_starved most 0 s.words s.views id me.0 w r.word at even refl refl in
        let held = gone.1 in moved (x + 1) w (takes 1 (lent even).0) gone.0 (refl, refl, refl, refl, (refl, refl), refl) (set_else s.homes 1 0 none (λ z. omega (arith, z)))
        (λ absent. absurd (omega arith)) ((λ f. never f), (λ _ _ h. never (sym h))) (inl (omega arith))

    of_seat : (right : S) → is_right room deed right → is_right me.0.room me.0.deed right
    of_seat right good = subst (λ (d : ℕ). is_right me.0.room d right) (sym mine_keyed.1) (subst (λ (z : RoomId). is_right z deed right) (sym mine_keyed.0) good)

    of_lock : (right : S) → is_right me.0.room me.0.deed right → is_right room deed right
    of_lock right good = subst (λ (d : ℕ). is_right room d right) mine_keyed.1 (subst (λ (z : RoomId). is_right z me.0.deed right) mine_keyed.0 good)

    -- the seat has got the lock, with the right
    pub gets-right : (n : ℕ) (even : x % 2 ≡ 0) → Got is_right n me (got n, (1, (lent even).0) ∷ me.1)
    gets-right n even = (refl, ((lent even).0, refl, of_seat (lent even).0 (lent even).2))

    abbrev pub cleared : View
    cleared = cleared_of me.0

    pub clears : (right : S) → x < 2 ^ 64 → me.0.holds ≡ true → me.1 ≡ (1, right) ∷ rest me.1 → is_right me.0.room me.0.deed right → 1 < length s.homes → R (stepped s 0 ((x + (2 ^ 64 - 1)) % 2 ^ 64) id me.1 cleared gives)
    clears right small is has good wide = let w : View = cleared in
        moved ((x + (2 ^ 64 - 1)) % 2 ^ 64) w gives (word.clears is_holder is_starved most 0 s.words s.views id me.0 w r.word at small is refl refl) (refl, refl, refl, refl, (refl, refl), refl)
        (subst (λ (t : List (ℕ × S)). get_elem? (put_back s.homes t) 0 ≡ get_elem? s.homes 0) (sym has) (set_else s.homes 1 0 (some right) (λ z. omega (arith, z))))
        (λ _. (right, subst (λ (t : List (ℕ × S)). get_elem? (put_back s.homes t) 1 ≡ some (some right)) (sym has) (set_here s.homes 1 (some right) wide), of_lock right good))
        (mine.0, (λ _ o _. never (sym o))) (wakes-owing len r.marked w refl)

    -- the right is laid down while the seat holds the lock
    pub lays_down : (right : S) → me.0.holds ≡ true → me.1 ≡ (1, right) ∷ rest me.1 → R (stepped s 0 x id me.1 me.0 gives)
    lays_down right is has =
        moved x me.0 gives (word.stays is_holder is_starved most 0 s.words s.views id me.0 me.0 r.word at refl refl) (refl, refl, refl, refl, (refl, refl), refl)
        (subst (λ (t : List (ℕ × S)). get_elem? (put_back s.homes t) 0 ≡ get_elem? s.homes 0) (sym has) (set_else s.homes 1 0 (some right) (λ z. omega (arith, z))))
        (λ absent. let m = number-at is_holder s.views id me.0 at in let w : weight (is_holder me.0) ≡ 1 = ap weight is in let none' = sym (same_holders me.0 refl) ∙ absent in absurd (omega arith))
        mine (wakes-same me.0 refl refl refl)

    -- counted in the list, having looked: the seat's duty is the others'
    abbrev pub counted_listed : View
    counted_listed = counted_listed_of me.0

    pub counts_listed : x / 2 < most → me.0.starved ≡ false → me.0.listed ≡ true → me.0.fresh ≡ false → R (stepped s 0 (x + 2) id me.1 counted_listed keeps)
    counts_listed few not has looked = let w : View = counted_listed in
        unmoved (x + 2) w (word.counts is_holder is_starved most 0 s.words s.views id me.0 w r.word at few refl not refl) (refl, refl, refl, refl, (refl, refl), refl) refl
        (mine.0, (λ _ _ _. (has, looked))) (wakes-same w refl refl refl)

    -- counted with no entry: the seat owes a look
    abbrev pub counted_unlisted : View
    counted_unlisted = counted_unlisted_of me.0

    pub counts_unlisted : x / 2 < most → me.0.starved ≡ false → R (stepped s 0 (x + 2) id me.1 counted_unlisted keeps)
    counts_unlisted few not = let w : View = counted_unlisted in
        unmoved (x + 2) w (word.counts is_holder is_starved most 0 s.words s.views id me.0 w r.word at few refl not refl) (refl, refl, refl, refl, (refl, refl), refl) refl
        (mine.0, (λ _ o _. never (sym o))) (wakes-owing len r.marked w refl)

    abbrev pub uncounted : View
    uncounted = uncounted_of me.0

    pub uncounts : x < 2 ^ 64 → me.0.starved ≡ true → R (stepped s 0 ((x + (2 ^ 64 - 2)) % 2 ^ 64) id me.1 uncounted keeps)
    uncounts small is = let w : View = uncounted in
        unmoved ((x + (2 ^ 64 - 2)) % 2 ^ 64) w (word.uncounts is_holder is_starved most 0 s.words s.views id me.0 w r.word at small refl is refl) (refl, refl, refl, refl, (refl, refl), refl) refl
        (mine.0, (λ st _ _. never st)) (wakes-same w refl refl refl)

    beside : (n : ℕ) (w : View) → w.holds ≡ me.0.holds → w.starved ≡ me.0.starved → IsWord is_holder is_starved most 0 (set s.words 1 n) (after w)
    beside n w h t = word.beside is_holder is_starved most 0 s.words s.views id me.0 w r.word at 1 n (λ e. omega arith) h t

    list_placed : (n : ℕ) (w : View) → number has_list_out (after w) ≤ 1 → n % 2 ≡ number has_list_out (after w) → IsListWord (set s.words 1 n) (after w)
    list_placed n w one is = let same = get_or-set_same s.words 1 n 0 r.list_word.0 in
        (subst (λ (z : ℕ). 1 < z) (sym (length-set s.words 1 n)) r.list_word.0, one, ap (λ (k : ℕ). k % 2) same ∙ is)

    -- what stays where the list's word becomes n, and who has the list out stays
    at_list : (n : ℕ) (w : View) → n % 2 ≡ y % 2 → (SaysEmpty n → SaysEmpty y) → Leaves w → w.holds ≡ me.0.holds → w.starved ≡ me.0.starved
        → KeepsPlace w → LosesNone len r.marked (after w) → R (stepped s 1 n id me.1 w keeps)
    at_list n w parity below left h t stands wakes =
        let c = number-set has_list_out s.views id me.0 w at in let c' : weight (has_list_out w) ≡ weight (has_list_out me.0) = ap weight left.0 in
        let one = r.list_word.1 in let is = r.list_word.2 in
        let same = get_or-set_same s.words 1 n 0 r.list_word.0 in record {
          word = beside n w h t;
          list_word = list_placed n w (omega arith) (omega arith);
          entries = r.entries;
          marked = r.marked;
          stands = stands_set w stands;
          keyed = keyed_set w (left_keyed w left.4);
          matched = matched_as w left.3 left.5;
          wakes = wakes;
          unlisted = λ low. r.unlisted (below (subst SaysEmpty same low));
          home = λ absent. r.home (omega arith);
          out = out_set w (λ has. let o = r.out id me.0 at (sym left.0 ∙ has) in (left.1 ∙ o.0, left.2 ∙ o.1));
          right = λ absent. r.right (sym (same_holders w h) ∙ absent);
        }

    -- a look at the list's word, by a seat that is not counted as starved
    pub peeked : me.0.starved ≡ false → R (stepped s 1 y id me.1 (peeking y me.0) keeps)
    peeked calm = let w : View = peeking y me.0 in at_list y w refl (λ low. low) (refl, refl, refl, refl, (refl, refl), refl) refl refl (mine.0, (λ st _ _. never (sym calm ∙ st)))
        (dite (dec_le 4 (y % 8)) (λ many. wakes-same w refl (many-owes (y % 8) me.0.owes many) refl)
        (λ few. let z : len ≡ 0 = ap length (r.unlisted (lt_of_not-le few)) in inr (omega arith)))

    -- the list's lock is taken by another
    pub busy : (n : ℕ) → n % 2 ≡ y % 2 → (SaysEmpty n → SaysEmpty y) → R (stepped s 1 n id me.1 me.0 keeps)
    busy n parity below = at_list n me.0 parity below (refl, refl, refl, refl, (refl, refl), refl) refl refl mine (wakes-same me.0 refl refl refl)

    lies : y % 2 ≡ 0 → (list : S) × (get_elem? s.homes 0 ≡ some (some list)) × (entries_of list ≡ r.entries) × (marked_of list ≡ r.marked)
    lies even = r.home (sym r.list_word.2 ∙ even)

    abbrev pub listing : S → View
    listing list = listing_of (entries_of list) (marked_of list) me.0

    -- the seat takes the list out
    pub grabbed : y % 2 ≡ 0 → (n : ℕ) → n % 2 ≡ 1 → (SaysEmpty n → SaysEmpty y) → (list : S) × (get_elem? s.homes 0 ≡ some (some list)) × R (stepped s 1 n id me.1 (listing list) (takes 0 list))
    grabbed even n odd below = let h = lies even in let w : View = listing h.0 in
        let c = number-set has_list_out s.views id me.0 w at in let c' : weight (has_list_out w) ≡ 1 = refl in
        let m = number-at has_list_out s.views id me.0 at in let is = r.list_word.2 in
        let one : number has_list_out (after w) ≡ 1 = omega arith in
        let same = get_or-set_same s.words 1 n 0 r.list_word.0 in (
          h.0,
          h.1,
          record {
            word = beside n w refl refl;
            list_word = list_placed n w (omega arith) (omega arith);
            entries = r.entries;
            marked = r.marked;
            stands = stands_set w mine;
            keyed = keyed_set w mine_keyed;
            matched = matched_as w refl refl;
            wakes = wakes-same w refl refl refl;
            unlisted = λ low. r.unlisted (below (subst SaysEmpty same low));
            home = λ absent. absurd (omega arith);
            out = out_set w (λ _. (h.2, h.3));
            right = λ nobody. let k = r.right (sym (same_holders w refl) ∙ nobody) in (k.0, set_else s.homes 0 1 none (λ z. omega (arith, z)) ∙ k.1, k.2);
          },
        )

    -- the seat gives the list back, and has this view then
    module _ (list : S) (n : ℕ) (lists : me.0.has_list ≡ true) (has : me.1 ≡ (0, list) ∷ rest me.1) (wide : 0 < length s.homes) (four : n % 4 ≡ 0) (low : SaysEmpty n → entries_of list ≡ []) where
      returned : (w : View) → w.has_list ≡ false → IsKeyed me.0.room me.0.deed w → w.holds ≡ me.0.holds → w.starved ≡ me.0.starved → KeepsPlace w → Matched IsEntryOf (entries_of list) (after w) → LosesNone (len_of list) (marked_of list) (after w) → R (stepped s 1 n id me.1 w gives)
      returned w off key h t stands matched wakes =
          let c = number-set has_list_out s.views id me.0 w at in let c' : weight (has_list_out w) ≡ 0 = ap weight off in let l : weight (has_list_out me.0) ≡ 1 = ap weight lists in
          let one = r.list_word.1 in
          let nobody : number has_list_out (after w) ≡ 0 = omega arith in
          let same = get_or-set_same s.words 1 n 0 r.list_word.0 in record {
            word = beside n w h t;
            list_word = list_placed n w (omega arith) (omega arith);
            entries = entries_of list;
            marked = marked_of list;
            stands = stands_set w stands;
            keyed = keyed_set w (left_keyed w key);
            matched = matched;
            wakes = wakes;
            unlisted = λ below. low (subst SaysEmpty same below);
            home = λ _. (list, subst (λ (t : List (ℕ × S)). get_elem? (put_back s.homes t) 0 ≡ some (some list)) (sym has) (set_here s.homes 0 (some list) wide), refl, refl);
            out = λ i v e is. let m = number-at has_list_out (after w) i v e in let q : weight (has_list_out v) ≡ 1 = ap weight is in absurd (omega arith);
            right = λ absent. let k = r.right (sym (same_holders w h) ∙ absent) in
                (k.0, subst (λ (t : List (ℕ × S)). get_elem? (put_back s.homes t) 1 ≡ get_elem? s.homes 1) (sym has) (set_else s.homes 0 1 (some list) (λ z. omega (arith, z))) ∙ k.1, k.2);
          }

      known : (me.0.entries ≡ r.entries) × (me.0.marked ≡ r.marked)
      known = r.out id me.0 at lists

      known_len : length me.0.entries ≡ len
      known_len = ap length known.0

      -- the same entries
      stand_same : (w : View) → w.listed ≡ me.0.listed → w.entry ≡ me.0.entry → entries_of list ≡ me.0.entries → Matched IsEntryOf (entries_of list) (after w)
      stand_same w l e same = subst (λ es. Matched IsEntryOf es (after w)) (sym (same ∙ known.0)) (matched_as w l e)

      -- without its own
      stand_left : (w : View) → w.listed ≡ false → me.0.listed ≡ true → entries_of list ≡ all_but me.0.entry me.0.entries → Matched IsEntryOf (entries_of list) (after w)
      stand_left w off was gone = subst (λ es. Matched IsEntryOf es (after w)) (sym (gone ∙ ap (all_but me.0.entry) known.0))
          (left IsEntryOf r.entries s.views id me.0 at r.matched me.0.entry w (was, refl) (λ n is. sym is.1) (λ n is. never (sym off ∙ is.0)))

      -- with its own
      stand_joined : (k : ℕ) (w : View) → w.listed ≡ true → w.entry ≡ k → me.0.listed ≡ false → entries_of list ≡ me.0.entries ++ k ∷ [] → IsNew k me.0.entries → Matched IsEntryOf (entries_of list) (after w)
      stand_joined k w l e away longer fresh = subst (λ es. Matched IsEntryOf es (after w)) (sym (longer ∙ ap (λ (es : List ℕ). es ++ k ∷ []) known.0))
          (joined IsEntryOf r.entries s.views id me.0 at r.matched k w (λ n is. never (sym away ∙ is.0)) (l, e) (λ n is. sym is.1 ∙ e) (λ h. fresh (subst (Has k) (sym known.0) h)))

      -- its entry has joined: it has not looked yet
      pub joins : (k : ℕ) → entries_of list ≡ me.0.entries ++ k ∷ [] → marked_of list ≡ me.0.marked → IsNew k me.0.entries → me.0.listed ≡ false → (me.0.starved ≡ true → me.0.owes ≡ true) → R (stepped s 1 n id me.1 (joined_of k me.0) gives)
      joins k longer same new away starts = let w : View = joined_of k me.0 in
          let more : len_of list ≡ length me.0.entries + 1 = ap length longer ∙ length-pushed k me.0.entries in
          let h = number-set is_holder s.views id me.0 w at in let o = number-set is_owing s.views id me.0 w at in let f = number-set is_fresh s.views id me.0 w at in
          let h' : weight (is_holder w) ≡ weight (is_holder me.0) = refl in let o' : weight (is_owing w) ≡ weight (is_owing me.0) = refl in let f' : weight (is_fresh w) ≡ 1 = refl in
          let not : weight (is_fresh me.0) ≡ 0 = ⊎_elim (λ yes. never (sym away ∙ mine.0 yes)) (λ no. ap weight no) (by_flag me.0.fresh) in
          let kl = known_len in let q = known.1 in
          returned w refl (refl, refl) refl refl ((λ _. refl), (λ st ow _. never (sym ow ∙ starts st))) (stand_joined k w refl refl away longer new) (⊎_elim (λ a. inl (omega arith)) (λ b. inr (omega arith)) r.wakes)

      -- its entry was notified, and has left: it owes
      abbrev pub told : View
      told = told_of me.0

      pub hears : entries_of list ≡ all_but me.0.entry me.0.entries → me.0.listed ≡ true → me.0.fresh ≡ false → R (stepped s 1 n id me.1 told gives)
      hears gone was looked = let w : View = told in
          returned w refl (refl, refl) refl refl ((λ f. never (sym looked ∙ f)), (λ _ o _. never (sym o))) (stand_left w refl was gone) (wakes-owing (len_of list) (marked_of list) w refl)

      -- it has notified
      abbrev pub paid : View
      paid = paid_of me.0

      pub pays : entries_of list ≡ me.0.entries → (0 < len_of list → 0 < marked_of list) → (me.0.starved ≡ true → (me.0.listed ≡ true) × (me.0.fresh ≡ false)) → R (stepped s 1 n id me.1 paid gives)
      pays same marks waits = let w : View = paid in
          returned w refl (refl, refl) refl refl (mine.0, (λ st _ _. waits st)) (stand_same w refl refl same) (dite (ℕ_discrete (len_of list) 0) (λ z. inr (omega arith)) (λ ne. let m = marks (omega arith) in inl (omega arith)))

      -- its entry has left, and what it was told has gone on
      pub leaves : entries_of list ≡ all_but me.0.entry me.0.entries → (0 < len_of list → 0 < me.0.marked → 0 < marked_of list) → me.0.listed ≡ true → me.0.fresh ≡ false → me.0.starved ≡ false → R (stepped s 1 n id me.1 (gone_of me.0) gives)
      leaves gone marks was looked calm = let w : View = gone_of me.0 in
          let few : len_of list ≤ length me.0.entries = subst (λ (es : List ℕ). length es ≤ length me.0.entries) (sym gone) (no-longer me.0.entry me.0.entries) in
          let h = number-set is_holder s.views id me.0 w at in let o = number-set is_owing s.views id me.0 w at in let f = number-set is_fresh s.views id me.0 w at in
          let h' : weight (is_holder w) ≡ weight (is_holder me.0) = refl in let o' : weight (is_owing w) ≡ weight (is_owing me.0) = refl in let f' : weight (is_fresh w) ≡ weight (is_fresh me.0) = refl in
          let kl = known_len in let q = known.1 in
          returned w refl (refl, refl) refl refl ((λ g. never (sym looked ∙ g)), (λ st _ _. never (sym calm ∙ st))) (stand_left w refl was gone)
          (⊎_elim (λ a. dite (ℕ_discrete (len_of list) 0) (λ z. inr (omega arith))
          (λ ne. dite (ℕ_discrete me.0.marked 0) (λ z. inl (omega arith)) (λ more. let m = marks (omega arith) (omega arith) in inl (omega arith))))
          (λ b. inr (omega arith)) r.wakes)

      -- nothing has changed
      pub stays : entries_of list ≡ me.0.entries → marked_of list ≡ me.0.marked → R (stepped s 1 n id me.1 (back me.0) gives)
      stays same marks = let w : View = back me.0 in let as_long : len_of list ≡ length me.0.entries = ap length same in
          let kl = known_len in let q = known.1 in
          returned w refl (refl, refl) refl refl mine (stand_same w refl refl same) (⊎_elim (λ a. inl (omega arith)) (λ b. inr (omega arith)) (wakes-same w refl refl refl))

  module _ (slots id : ℕ) (me : M) where
    -- the only one who is starved gets the lock; else it has looked, and found its own count
    pub taken_alone : me.0.starved ≡ true → me.0.listed ≡ true → Allows R slots id me 0 (λ n. either (eqb n 2) 3 n) (λ n m'. (n ≡ 2 → Got is_right 2 me m') × (n ≢ 2 → Looked me n m') × (n ≢ 0))
    taken_alone starved listed s r _ at _ = let n : ℕ = get_or s.words 0 0 in
        let mine = number-at is_starved s.views id me.0 at in let one : weight (is_starved me.0) ≡ 1 = ap weight starved in let is = r.word.3 in
        let some : 2 ≤ n = omega arith in dite (ℕ_discrete n 2)
        (λ hit. let even : n % 2 ≡ 0 = ap (λ j. j % 2) hit in let right = (lent s id me r at even).0 in (
          got_of 2 me.0,
          takes 1 right,
          (lent s id me r at even).1,
          subst (λ b. R (stepped s 0 (either b 3 n) id me.1 (got_of 2 me.0) (takes 1 right))) (sym (eq-eqb n 2 hit)) (subst (λ j. R (stepped s 0 (j + 1) id me.1 (got_of 2 me.0) (takes 1 right))) hit (gets s id me r at 2 even)),
          ((λ _. gets-right s id me r at 2 even), (λ miss. absurd (miss hit)), λ z. omega (arith, z, some)),
        ))
        (λ miss. (
          looking n me.0,
          keeps,
          tt,
          subst (λ b. R (stepped s 0 (either b 3 n) id me.1 (looking n me.0) keeps)) (sym (ne_eqb n 2 miss)) (looks s id me r at (λ _. listed)),
          ((λ hit. absurd (miss hit)), (λ _. looked-is n me), λ z. omega (arith, z, some)),
        ))

    -- the seat sets the lowest bit: it has the lock, if that was free
    pub lifted : Allows R slots id me 0 (λ n. bit_or n 1) (λ n m'. (n % 2 ≡ 0 → Got is_right n me m') × (n % 2 ≢ 0 → m' ≡ (saw_of n me.0, me.1)))
    lifted s r _ at _ = let n : ℕ = get_or s.words 0 0 in let low = or_one n in dite (ℕ_discrete (n % 2) 0)
        (λ even. let up : n + 1 ≡ bit_or n 1 = omega arith in let right = (lent s id me r at even).0 in
        (got_of n me.0, takes 1 right, (lent s id me r at even).1, subst (λ k. R (stepped s 0 k id me.1 (got_of n me.0) (takes 1 right))) up (gets s id me r at n even), ((λ _. gets-right s id me r at n even), λ not. absurd (not even))))
        (λ odd. let same : n ≡ bit_or n 1 = omega arith in (saw_of n me.0, keeps, tt, subst (λ k. R (stepped s 0 k id me.1 (saw_of n me.0) keeps)) same (saw s id me r at), ((λ even. absurd (odd even)), λ _. refl)))

    -- a look that changes nothing for the seat
    pub reads : Allows R slots id me 0 (λ n. n) (λ _ m'. Kept me m')
    reads s r _ at _ = (me.0, keeps, tt, still s id me r at, refl)

    pub looked : (me.0.starved ≡ true → me.0.listed ≡ true) → Allows R slots id me 0 (λ n. n) (λ n m'. Looked me n m')
    looked has s r _ at _ = (looking (get_or s.words 0 0) me.0, keeps, tt, looks s id me r at has, looked-is (get_or s.words 0 0) me)

    -- from the word k, which is even, the seat gets the lock; else it has looked
    pub taken_from : (k : ℕ) → k % 2 ≡ 0 → (me.0.starved ≡ true → me.0.listed ≡ true) → Allows R slots id me 0 (λ n. either (eqb n k) (k + 1) n) (λ n m'. (n ≡ k → Got is_right k me m') × (n ≢ k → Looked me n m'))
    taken_from k even has s r _ at _ = let n : ℕ = get_or s.words 0 0 in dite (ℕ_discrete n k)
        (λ hit. let even' : n % 2 ≡ 0 = ap (λ j. j % 2) hit ∙ even in let right = (lent s id me r at even').0 in (
          got_of k me.0,
          takes 1 right,
          (lent s id me r at even').1,
          subst (λ b. R (stepped s 0 (either b (k + 1) n) id me.1 (got_of k me.0) (takes 1 right))) (sym (eq-eqb n k hit)) (subst (λ j. R (stepped s 0 (j + 1) id me.1 (got_of k me.0) (takes 1 right))) hit (gets s id me r at k even')),
          ((λ _. gets-right s id me r at k even'), λ miss. absurd (miss hit)),
        ))
        (λ miss. (
          looking n me.0,
          keeps,
          tt,
          subst (λ b. R (stepped s 0 (either b (k + 1) n) id me.1 (looking n me.0) keeps)) (sym (ne_eqb n k miss)) (looks s id me r at has),
          ((λ hit. absurd (miss hit)), λ _. looked-is n me),
        ))

    -- the seat is counted, with an entry and having looked
    pub counted_listed_by : (found : ℕ) → found / 2 < most → me.0.starved ≡ false → me.0.listed ≡ true → me.0.fresh ≡ false → Allows R slots id me 0 (λ n. either (eqb n found) (found + 2) n) (λ n m'. (n ≡ found → m' ≡ (counted_listed_of me.0, me.1)) × (n ≢ found → m' ≡ me))
    counted_listed_by found few not has looked s r _ at _ = let n : ℕ = get_or s.words 0 0 in dite (ℕ_discrete n found)
        (λ hit. (
          counted_listed_of me.0,
          keeps,
          tt,
          subst (λ b. R (stepped s 0 (either b (found + 2) n) id me.1 (counted_listed_of me.0) keeps)) (sym (eq-eqb n found hit)) (subst (λ j. R (stepped s 0 (j + 2) id me.1 (counted_listed_of me.0) keeps)) hit (counts_listed s id me r at (subst (λ j. j / 2 < most) (sym hit) few) not has looked)),
          ((λ _. refl), λ miss. absurd (miss hit)),
        ))
        (λ miss. (me.0, keeps, tt, subst (λ b. R (stepped s 0 (either b (found + 2) n) id me.1 me.0 keeps)) (sym (ne_eqb n found miss)) (still s id me r at), ((λ hit. absurd (miss hit)), λ _. refl)))

    -- the seat is counted, and owes a look
    pub counted_unlisted_by : (found : ℕ) → found / 2 < most → me.0.starved ≡ false → Allows R slots id me 0 (λ n. either (eqb n found) (found + 2) n) (λ n m'. (n ≡ found → m' ≡ (counted_unlisted_of me.0, me.1)) × (n ≢ found → m' ≡ me))
    counted_unlisted_by found few not s r _ at _ = let n : ℕ = get_or s.words 0 0 in dite (ℕ_discrete n found)
        (λ hit. (
          counted_unlisted_of me.0,
          keeps,
          tt,
          subst (λ b. R (stepped s 0 (either b (found + 2) n) id me.1 (counted_unlisted_of me.0) keeps)) (sym (eq-eqb n found hit)) (subst (λ j. R (stepped s 0 (j + 2) id me.1 (counted_unlisted_of me.0) keeps)) hit (counts_unlisted s id me r at (subst (λ j. j / 2 < most) (sym hit) few) not)),
          ((λ _. refl), λ miss. absurd (miss hit)),
        ))
        (λ miss. (me.0, keeps, tt, subst (λ b. R (stepped s 0 (either b (found + 2) n) id me.1 me.0 keeps)) (sym (ne_eqb n found miss)) (still s id me r at), ((λ hit. absurd (miss hit)), λ _. refl)))

    pub uncounted_by : me.0.starved ≡ true → Allows R slots id me 0 (λ n. (n + (2 ^ 64 - 2)) % 2 ^ 64) (λ _ m'. m' ≡ (uncounted_of me.0, me.1))
    uncounted_by is s r _ at small = (uncounted_of me.0, keeps, tt, uncounts s id me r at small is, refl)

    pub cleared_by : (right : S) → me.0.holds ≡ true → me.1 ≡ (1, right) ∷ rest me.1 → is_right me.0.room me.0.deed right → 1 < slots → Allows R slots id me 0 (λ n. (n + (2 ^ 64 - 1)) % 2 ^ 64) (λ _ m'. m' ≡ (cleared_of me.0, rest me.1))
    cleared_by right is has good wide s r len at small = (cleared_of me.0, gives, tt, clears s id me r at right small is has good (subst (λ (z : ℕ). 1 < z) (sym len) wide), refl)

    pub laid_down : (right : S) → me.0.holds ≡ true → me.1 ≡ (1, right) ∷ rest me.1 → Allows R slots id me 0 (λ n. n) (λ _ m'. m' ≡ (me.0, rest me.1))
    laid_down right is has s r _ at _ = (me.0, gives, tt, lays_down s id me r at right is has, refl)

    pub peeks : me.0.starved ≡ false → Allows R slots id me 1 (λ n. n) (λ n m'. m' ≡ (peeking n me.0, me.1))
    peeks calm s r _ at _ = (peeking (get_or s.words 1 0) me.0, keeps, tt, peeked s id me r at calm, refl)

    pub grabs : (k : ℕ) → SetsLow k → Allows R slots id me 1 (λ n. bit_or n k) (λ n m'. Grabbed entries_of marked_of me n m')
    grabs k bits s r _ at _ = let n : ℕ = get_or s.words 1 0 in let b = bits n in dite (ℕ_discrete (n % 2) 0)
        (λ even. let g = grabbed s id me r at even (bit_or n k) b.0 b.1 in (
          listing_of (entries_of g.0) (marked_of g.0) me.0,
          takes 0 g.0,
          g.1,
          g.2,
          ((λ _. (g.0, refl)), λ odd. absurd (omega (arith, even, odd))),
        ))
        (λ ne. (me.0, keeps, tt, busy s id me r at (bit_or n k) (let o = b.0 in let z : ℕ = bit_or n k in omega (arith, ne)) b.1, ((λ even. absurd (ne even)), λ _. refl)))

    module _ (list : S) (new : ℕ) (lists : me.0.has_list ≡ true) (has : me.1 ≡ (0, list) ∷ rest me.1) (wide : 0 < slots) (four : new % 4 ≡ 0) (low : SaysEmpty new → entries_of list ≡ []) where
      pub gives-joined : (k : ℕ) → entries_of list ≡ me.0.entries ++ k ∷ [] → marked_of list ≡ me.0.marked → IsNew k me.0.entries → me.0.listed ≡ false → (me.0.starved ≡ true → me.0.owes ≡ true)
          → Allows R slots id me 1 (λ _. new) (λ _ m'. (list : S) × (me.1 ≡ (0, list) ∷ rest me.1) × (m' ≡ (joined_of (last_of (entries_of list)) me.0, rest me.1)))
      gives-joined k longer same new_one away starts s r len at _ = (
        joined_of k me.0,
        gives,
        tt,
        joins s id me r at list new lists has (subst (λ (z : ℕ). 0 < z) (sym len) wide) four low k longer same new_one away starts,
        (list, has, ap (λ j. (joined_of j me.0, rest me.1)) (sym (ap last_of longer ∙ last-pushed k me.0.entries))),
      )

      pub gives-told : entries_of list ≡ all_but me.0.entry me.0.entries → me.0.listed ≡ true → me.0.fresh ≡ false → Allows R slots id me 1 (λ _. new) (λ _ m'. m' ≡ (told_of me.0, rest me.1))
      gives-told gone was looks s r len at _ = (told_of me.0, gives, tt, hears s id me r at list new lists has (subst (λ (z : ℕ). 0 < z) (sym len) wide) four low gone was looks, refl)

      pub gives-paid : entries_of list ≡ me.0.entries → (0 < len_of list → 0 < marked_of list) → (me.0.starved ≡ true → (me.0.listed ≡ true) × (me.0.fresh ≡ false)) → Allows R slots id me 1 (λ _. new) (λ _ m'. m' ≡ (paid_of me.0, rest me.1))
      gives-paid same marks waits s r len at _ = (paid_of me.0, gives, tt, pays s id me r at list new lists has (subst (λ (z : ℕ). 0 < z) (sym len) wide) four low same marks waits, refl)

      pub gives-gone : entries_of list ≡ all_but me.0.entry me.0.entries → (0 < len_of list → 0 < me.0.marked → 0 < marked_of list) → me.0.listed ≡ true → me.0.fresh ≡ false → me.0.starved ≡ false → Allows R slots id me 1 (λ _. new) (λ _ m'. m' ≡ (gone_of me.0, rest me.1))
      gives-gone gone marks was looks calm s r len at _ = (gone_of me.0, gives, tt, leaves s id me r at list new lists has (subst (λ (z : ℕ). 0 < z) (sym len) wide) four low gone marks was looks calm, refl)

      pub gives-same : entries_of list ≡ me.0.entries → marked_of list ≡ me.0.marked → Allows R slots id me 1 (λ _. new) (λ _ m'. m' ≡ (back me.0, rest me.1))
      gives-same same marks s r len at _ = (back me.0, gives, tt, stays s id me r at list new lists has (subst (λ (z : ℕ). 0 < z) (sym len) wide) four low same marks, refl)

  -- a new seat has nothing
  pub sits : (slots i : ℕ) → Enters R slots i (λ n w. Kept {S = S} (first, []) (w, []))
  sits slots i s r _ _ = let w : View = first in let h = number-none is_holder s.views w refl in let o = number-none is_owing s.views w refl in let l = number-none has_list_out s.views w refl in
      let f = number-none is_fresh s.views w refl in
      let lw = r.list_word in let one = lw.1 in let is = lw.2 in (
        w,
        record {
          word = word.comes is_holder is_starved most 0 s.words s.views w r.word refl refl;
          list_word = (lw.0, omega arith, omega arith);
          entries = r.entries;
          marked = r.marked;
          stands = λ j v e. ⊎_elim (λ old. r.stands j v old) (λ same. subst KeepsPlace same nothing) (at_snoc s.views w v j e);
          keyed = λ j v e. ⊎_elim (λ old. r.keyed j v old) (λ same. subst (IsKeyed room deed) same (refl, refl)) (at_snoc s.views w v j e);
          matched = longer IsEntryOf r.entries s.views w (λ n q. never q.0) r.matched;
          wakes = ⊎_elim (λ a. inl (omega arith)) (λ b. inr (omega arith)) r.wakes;
          unlisted = r.unlisted;
          home = λ absent. r.home (omega arith);
          out = λ j v e has. ⊎_elim (λ old. r.out j v old has) (λ same. never (ap (λ (u : View). u.has_list) same ∙ has)) (at_snoc s.views w v j e);
          right = λ absent. r.right (omega (arith, h, absent));
        },
        refl,
      )
