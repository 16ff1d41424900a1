-- What an action found, said of the parties.
use Rattle.world_rwlock.proofs.Prelude.{◌≡◌, ℕ, ◌<◌, Bool, true, false, List, refl, ap, sym, arith, ◌∙◌, Queue, Mutex, Word, Place, Action, Found, Done, Writer, Full, NoneLeft, SomeLeft, NoMemory, Yes, No, Turn, bit, OnWord, FindsMemory, OnNoWriter, OnNoReaders, OnTurn, RwLock, IsMachine, Finds}
use Rattle.sync_program.specs.declared.rwlock.Found.TheVariants.{NotFree}

clear : (b : Bool) → bit b ≡ 0 → b ≡ false
clear false h = refl
clear true h = absurd (omega arith)

module _ (memory starving : Bool) (p : ℕ) (v w : Word) (ps : List Place) (l m l' m' : Queue) (t u : Mutex) (i : IsMachine v ps l m t) where
  abbrev the_lock : RwLock
  the_lock = record { places = ps; no_writer = l.entries; no_readers = m.entries; turn = t; limit = v.limit }

  pub finds : (a : Action) (f : Found) → OnWord a f v w → OnNoWriter p a f l.entries l'.entries → OnNoReaders p a f m.entries m'.entries → OnTurn memory starving p a f t u → FindsMemory memory a f → Finds memory a f the_lock
  finds Action.Nothing Done e el em et has = tt
  finds Action.Nothing _ e el em et has = absurd e
  finds Action.Read Done e el em et has = (omega (arith, i.sound.writer, ap bit e.0), omega (arith, i.sound.readers, e.1))
  finds Action.Read Writer e el em et has = omega (arith, i.sound.writer, ap bit e.0)
  finds Action.Read Full e el em et has = (omega (arith, i.sound.writer, ap bit e.0), omega (arith, i.sound.readers, e.1))
  finds Action.Read _ e el em et has = absurd e
  finds Action.Add Done e el em et has = omega (arith, i.sound.readers, e.0)
  finds Action.Add Full e el em et has = omega (arith, i.sound.readers, e.0)
  finds Action.Add _ e el em et has = absurd e
  finds Action.Off NoneLeft e el em et has = omega (arith, i.sound.readers, e.0)
  finds Action.Off SomeLeft e el em et has = omega (arith, i.sound.readers, e.0, e.1)
  finds Action.Off _ e el em et has = absurd e
  finds Action.Load NoneLeft e el em et has = omega (arith, i.sound.readers, e.0)
  finds Action.Load SomeLeft e el em et has = omega (arith, i.sound.readers, e.0)
  finds Action.Load _ e el em et has = absurd e
  finds Action.Mark NoneLeft e el em et has = omega (arith, i.sound.readers, e.0)
  finds Action.Mark SomeLeft e el em et has = omega (arith, i.sound.readers, e.0)
  finds Action.Mark _ e el em et has = absurd e
  finds Action.TryWrite Done e el em et has = (omega (arith, i.sound.writer, ap bit e.0), omega (arith, i.sound.readers, e.1))
  finds Action.TryWrite NotFree e el em et has = λ free. (let some : 0 < v.readers = e.0 (clear v.writer (sym i.sound.writer ∙ free)) in omega (arith, i.sound.readers))
  finds Action.TryWrite _ e el em et has = absurd e
  finds Action.TryUpgrade Done e el em et has = (omega (arith, i.sound.writer, ap bit e.0), omega (arith, i.sound.readers, e.1))
  finds Action.TryUpgrade NotFree e el em et has = λ free one. e.0 (clear v.writer (sym i.sound.writer ∙ free)) (sym i.sound.readers ∙ one)
  finds Action.TryUpgrade _ e el em et has = absurd e
  finds Action.Upgrade Done e el em et has = omega (arith, i.sound.readers, e.0)
  finds Action.Upgrade _ e el em et has = absurd e
  finds Action.Down Done e el em et has = tt
  finds Action.Down _ e el em et has = absurd e
  finds Action.Unmark Done e el em et has = tt
  finds Action.Unmark _ e el em et has = absurd e
  finds Action.JoinNoWriter Done e el em et has = has
  finds Action.JoinNoWriter NoMemory e el em et has = has
  finds Action.JoinNoWriter _ e el em et has = absurd el
  finds Action.AskNoWriter Yes e el em et has = tt
  finds Action.AskNoWriter No e el em et has = tt
  finds Action.AskNoWriter _ e el em et has = absurd el
  finds Action.LeaveNoWriter Done e el em et has = tt
  finds Action.LeaveNoWriter _ e el em et has = absurd el
  finds Action.NotifyNoWriter Done e el em et has = tt
  finds Action.NotifyNoWriter _ e el em et has = absurd el
  finds Action.JoinNoReaders Done e el em et has = has
  finds Action.JoinNoReaders NoMemory e el em et has = has
  finds Action.JoinNoReaders _ e el em et has = absurd em
  finds Action.AskNoReaders Yes e el em et has = tt
  finds Action.AskNoReaders No e el em et has = tt
  finds Action.AskNoReaders _ e el em et has = absurd em
  finds Action.LeaveNoReaders Done e el em et has = tt
  finds Action.LeaveNoReaders _ e el em et has = absurd em
  finds Action.NotifyNoReaders Done e el em et has = tt
  finds Action.NotifyNoReaders _ e el em et has = absurd em
  finds (Action.Begin c) (Turn n) e el em et has = tt
  finds (Action.Begin c) _ e el em et has = absurd et
  finds Action.Go (Turn n) e el em et has = tt
  finds Action.Go _ e el em et has = absurd et

-- no action moves the limit
pub limit_kept : (a : Action) (f : Found) (v w : Word) → OnWord a f v w → w.limit ≡ v.limit
limit_kept Action.Nothing Done v w e = ap (λ w. w.limit) e
limit_kept Action.Nothing _ v w e = absurd e
limit_kept Action.Read Done v w e = ap (λ w. w.limit) e.2
limit_kept Action.Read Writer v w e = ap (λ w. w.limit) e.1
limit_kept Action.Read Full v w e = ap (λ w. w.limit) e.2
limit_kept Action.Read _ v w e = absurd e
limit_kept Action.Add Done v w e = ap (λ w. w.limit) e.1
limit_kept Action.Add Full v w e = ap (λ w. w.limit) e.1
limit_kept Action.Add _ v w e = absurd e
limit_kept Action.Off NoneLeft v w e = ap (λ w. w.limit) e.1
limit_kept Action.Off SomeLeft v w e = ap (λ w. w.limit) e.2
limit_kept Action.Off _ v w e = absurd e
limit_kept Action.Load NoneLeft v w e = ap (λ w. w.limit) e.1
limit_kept Action.Load SomeLeft v w e = ap (λ w. w.limit) e.1
limit_kept Action.Load _ v w e = absurd e
limit_kept Action.Mark NoneLeft v w e = ap (λ w. w.limit) e.1
limit_kept Action.Mark SomeLeft v w e = ap (λ w. w.limit) e.1
limit_kept Action.Mark _ v w e = absurd e
limit_kept Action.TryWrite Done v w e = ap (λ w. w.limit) e.2
limit_kept Action.TryWrite NotFree v w e = ap (λ w. w.limit) e.1
limit_kept Action.TryWrite _ v w e = absurd e
limit_kept Action.TryUpgrade Done v w e = ap (λ w. w.limit) e.2
limit_kept Action.TryUpgrade NotFree v w e = ap (λ w. w.limit) e.1
limit_kept Action.TryUpgrade _ v w e = absurd e
limit_kept Action.Upgrade Done v w e = ap (λ w. w.limit) e.1
limit_kept Action.Upgrade _ v w e = absurd e
limit_kept Action.Down Done v w e = ap (λ w. w.limit) e
limit_kept Action.Down _ v w e = absurd e
limit_kept Action.Unmark Done v w e = ap (λ w. w.limit) e
limit_kept Action.Unmark _ v w e = absurd e
limit_kept _ f v w e = ap (λ w. w.limit) e
