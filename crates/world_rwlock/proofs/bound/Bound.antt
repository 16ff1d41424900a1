-- Solo polls in turn: each that passes a free turn over gives way, and none passes over what else is free.
use Rattle.world_rwlock.proofs.Prelude.{◌≡◌, ℕ, ◌<◌, ◌≤◌, ◌⊎◌, inl, inr, List, refl, arith, Entry, marked_count, IsMarkedFirst, entries_of, Answer, Inputs, for_the_turn, for_no_readers, for_no_writer, nobody, World, standing_of, HasTurn, entries_in, IsSound, IsAwake, IsTurnWanted, IsReadingWanted, IsWritingWanted, Call, IsWholeCall, accounts_of, Promises, TakesTurn, GivesTurnWay, PassesTurnOver, IsTurnBounded, IsReadingBounded, IsWritingBounded}
use Rattle.world_base.specs.Bounds.{GaveWay, SomeMarked}
use Rattle.world_base.proofs.Bounds.{one_takes}
use Rattle.world_base.proofs.of_table.Bounds.{first_marked}
use Rattle.world_rwlock.proofs.laws.WorldLaws.{keeps_promise}

-- the first entry of a list with marked ones, whose party is pending or was
pub some_marked : (w : World) → IsAwake w → (list : List (Entry ℕ)) → ((p : ℕ) → entries_of p list ≤ entries_in w p) → IsMarkedFirst list → 0 < marked_count list → SomeMarked (standing_of w) list
some_marked w awake list within in_order some =
    let found = first_marked list in_order some in
    (found.0, found.1, awake.pending found.0 (omega (arith, within found.0, found.2)))

-- a whole poll keeps its promises
kept : (w : World) (p : ℕ) (inputs : Inputs) (a : Answer) (v : World) → IsWholeCall w p Call.Poll inputs a v → Promises w p Call.Poll inputs a v
kept w p inputs a v whole = keeps_promise (accounts_of w) w p Call.Poll inputs whole.more a v whole.runs whole.ended

-- ---- the turn

abbrev IsFree : World → Type 0
IsFree w = w.state.turn ≡ nobody

passed : (w : World) (p : ℕ) (a : Answer) (v : World) → (HasTurn v.state.turn p → ⊥) → TakesTurn w p a v ⊎ GivesTurnWay w p a v → IsFree v × GaveWay p w.state.starved w.turn_list v.state.starved v.turn_list
passed w p a v not_taken (inl takes) = absurd (not_taken takes.has_turn)
passed w p a v not_taken (inr gives) = (gives.free, gives.gave_way)

gives : (w : World) (p : ℕ) (inputs : Inputs) (a : Answer) (v : World) → IsFree w → PassesTurnOver w p inputs a v → IsFree v × GaveWay p w.state.starved w.turn_list v.state.starved v.turn_list
gives w p inputs a v free over = passed w p a v over.not_taken (((kept w p inputs a v over.whole).turn refl over.solo free).takes_or_gives_way over.unrefused)

pub turn_bounded : (w : World) → IsSound w → IsAwake w → IsTurnWanted w → IsTurnBounded w
turn_bounded w sound awake wanted = record {
  some_marked = some_marked w awake w.turn_list (λ p. omega arith) (sound.in_order for_the_turn) (awake.turn_marked wanted);
  one_takes = one_takes PassesTurnOver (λ v. v.state.starved) (λ v. v.turn_list) IsFree gives w wanted.0 wanted.1 awake.starved;
}

-- ---- reading and writing

pub reading_bounded : (w : World) → IsSound w → IsAwake w → IsReadingWanted w → IsReadingBounded w
reading_bounded w sound awake wanted = record {
  some_marked = some_marked w awake w.no_writer (λ p. omega arith) (sound.in_order for_no_writer) (awake.reading_marked wanted);
  none_passes = λ p inputs a v over. let reads = ((kept w p inputs a v over.whole).reading refl over.told wanted.0 over.readers_limit).reads in let not = over.not_taken in absurd (cc);
}

pub writing_bounded : (w : World) → IsSound w → IsAwake w → IsWritingWanted w → IsWritingBounded w
writing_bounded w sound awake wanted = record {
  some_marked = some_marked w awake w.no_readers (λ p. omega arith) (sound.in_order for_no_readers) (awake.writing_marked wanted);
  none_passes = λ p inputs a v over. over.not_taken ((kept w p inputs a v over.whole).writing refl over.solo wanted.0).writes;
}
