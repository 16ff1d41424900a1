-- What each action finds and does: all else stays as it was.
use Rattle.world_semaphore.proofs.Prelude.{◌≡◌, ℕ, ◌+◌, true, false, Bool, List, refl, sym, ap, Entry, is_marked_at, without, Action, Found, is_party, WeightedQueue, weighted_queue, weight_in, Words, FindsSo, effect_of, entries_after, words, told_by}
use Rattle.world_semaphore.specs.machine.Carried.{Carried}
use Rattle.world_semaphore.proofs.machine.semaphore.carry_out.Goals as goal

-- neither a look at the permits nor a raised limit does anything to the list
takes_alone : (size : ℕ → ℕ) (p k : ℕ) (f : Found) (l : List (Entry ℕ)) → entries_after size p (effect_of (Action.Take k) f) l ≡ l
takes_alone size p k (Found.Left a) l = refl
takes_alone size p k _ l = refl

raises_alone : (size : ℕ → ℕ) (p n : ℕ) (f : Found) (l : List (Entry ℕ)) → entries_after size p (effect_of (Action.Raise n) f) l ≡ l
raises_alone size p n Found.Done l = refl
raises_alone size p n _ l = refl

module _ (memory : Bool) (p : ℕ) (v : Words) (q : WeightedQueue) where
  gave_back : (k : ℕ) (f : Found) (w : Words) → FindsSo (v.available + k) f → w ≡ words (v.available + k) v.limit v.most → Carried memory p (Action.GiveBack k) f v q w q
  gave_back k (Found.Available a) w e is = record { finds = e; words = is; list = refl }
  gave_back k _ w e is = absurd e

  gave : (k : ℕ) (f : Found) (w : Words) → FindsSo (v.available + k) f → w ≡ words (v.available + k) v.limit v.most → Carried memory p (Action.Give k) f v q w q
  gave k (Found.Available a) w e is = record { finds = e; words = is; list = refl }
  gave k _ w e is = absurd e

  loaded : (f : Found) → FindsSo v.available f → Carried memory p Action.Load f v q v q
  loaded (Found.Available a) e = record { finds = e; words = refl; list = refl }
  loaded _ e = absurd e

  asked : (b : Bool) (m : WeightedQueue) → b ≡ is_marked_at (is_party p) q.entries → (b ≡ true → m ≡ weighted_queue q.parties (without (is_party p) q.entries) q.weights) → (b ≡ false → m ≡ q) → Carried memory p Action.Ask (told_by b) v q v m
  asked true m is told waits = record { finds = sym is; words = refl; list = rw (sym is) (told refl) }
  asked false m is told waits = record { finds = sym is; words = refl; list = rw (sym is) (waits refl) }

  removed : (b : Bool) (m : WeightedQueue) → b ≡ is_marked_at (is_party p) q.entries → m ≡ weighted_queue q.parties (without (is_party p) q.entries) q.weights → Carried memory p Action.Remove (told_by b) v q v m
  removed true m is gone = record { finds = sym is; words = refl; list = gone }
  removed false m is gone = record { finds = sym is; words = refl; list = gone }

pub returns-in-Nothing : goal.returns-in-Nothing
returns-in-Nothing c = rw c.in-Nothing.is (record { finds = _; words = refl; list = refl })

pub returns-in-Take : goal.returns-in-Take
returns-in-Take c = rw c.in-Take.is (record { finds = c.take.ensures.finds; words = c.take.ensures.words; list = ap (λ es. weighted_queue c.args.list.now.parties es c.args.list.now.weights) (sym (takes_alone (weight_in c.args.list.now.weights) _ _ _ _)) })

pub returns-in-GiveBack : goal.returns-in-GiveBack
returns-in-GiveBack c = rw c.in-GiveBack.is (gave_back c.args.memory c.args.party c.args.words.now c.args.list.now c.in-GiveBack.k c.give.result c.give.new.self c.give.ensures.finds c.give.ensures.words)

pub returns-in-Give : goal.returns-in-Give
returns-in-Give c = rw c.in-Give.is (gave c.args.memory c.args.party c.args.words.now c.args.list.now c.in-Give.n c.give-in-Give.result c.give-in-Give.new.self c.give-in-Give.ensures.finds c.give-in-Give.ensures.words)

pub returns-in-Raise : goal.returns-in-Raise
returns-in-Raise c = rw c.in-Raise.is (record { finds = c.raise.ensures.finds; words = c.raise.ensures.words; list = ap (λ es. weighted_queue c.args.list.now.parties es c.args.list.now.weights) (sym (raises_alone (weight_in c.args.list.now.weights) _ _ _ _)) })

pub returns-in-Lower : goal.returns-in-Lower
returns-in-Lower c = rw c.in-Lower.is (record { finds = _; words = c.lower.ensures; list = refl })

pub returns-in-Load : goal.returns-in-Load
returns-in-Load c = rw c.in-Load.is (loaded c.args.memory c.args.party c.args.words.now c.args.list.now c.load.result c.load.ensures)

pub returns-then-memory : goal.returns-then-memory
returns-then-memory c = rw c.in-Join.is (record { finds = c.if-memory.true; words = refl; list = c.join.ensures })

pub returns-else-memory : goal.returns-else-memory
returns-else-memory c = rw c.in-Join.is (record { finds = c.if-memory.false; words = refl; list = refl })

pub returns-in-Ask : goal.returns-in-Ask
returns-in-Ask c = rw (c.in-Ask.is, c.told.ensures) (asked c.args.memory c.args.party c.args.words.now c.args.list.now c.ask.result c.ask.new.self c.ask.ensures.answer c.ask.ensures.told c.ask.ensures.waiting)

pub returns-in-Remove : goal.returns-in-Remove
returns-in-Remove c = rw (c.in-Remove.is, c.told-in-Remove.ensures) (removed c.args.memory c.args.party c.args.words.now c.args.list.now c.remove.result c.remove.new.self c.remove.ensures.answer c.remove.ensures.gone)

pub returns-in-Fit : goal.returns-in-Fit
returns-in-Fit c = rw c.in-Fit.is (record { finds = _; words = refl; list = c.fit.ensures })
