-- What is written of a state, grouped as it is told of.
use Rattle.std.proofs.Common.{◌≡◌, ℕ, Bool, List, ◌++◌, append_assoc}
use Rattle.std.specs.Prelude.{codes, decimal, if◌then◌else◌}
use Rattle.lockrun_play.specs.States.{flag_text, mutex_text, rwlock_text, semaphore_text, barrier_text, pool_text, pool_lock_text}

grouped_4 : (a b c d : List ℕ) → a ++ (b ++ (c ++ d)) ≡ ((a ++ b) ++ c) ++ d
grouped_4 a b c d = simp append_assoc

grouped_6 : (a b c d e f : List ℕ) → a ++ (b ++ (c ++ (d ++ (e ++ f)))) ≡ ((((a ++ b) ++ c) ++ d) ++ e) ++ f
grouped_6 a b c d e f = simp append_assoc

grouped_8 : (a b c d e f g h : List ℕ) → a ++ (b ++ (c ++ (d ++ (e ++ (f ++ (g ++ h)))))) ≡ ((((((a ++ b) ++ c) ++ d) ++ e) ++ f) ++ g) ++ h
grouped_8 a b c d e f g h = simp append_assoc

grouped_10 : (a b c d e f g h i j : List ℕ) → a ++ (b ++ (c ++ (d ++ (e ++ (f ++ (g ++ (h ++ (i ++ j)))))))) ≡ ((((((((a ++ b) ++ c) ++ d) ++ e) ++ f) ++ g) ++ h) ++ i) ++ j
grouped_10 a b c d e f g h i j = simp append_assoc

pub mutex_is : (locked : Bool) (digit starved value : ℕ) → digit ≡ (if locked then 1 else 0) → codes "mutex locked=" ++ (decimal digit ++ (codes " starved=" ++ (decimal starved ++ (codes " value=" ++ decimal value)))) ≡ mutex_text locked starved value
mutex_is locked digit starved value is_locked =
    rw is_locked (grouped_6 (codes "mutex locked=") (flag_text locked) (codes " starved=") (decimal starved) (codes " value=") (decimal value))

pub rwlock_is : (turn : Bool) (turn_digit starved : ℕ) (writer : Bool) (writer_digit readers value : ℕ) → turn_digit ≡ (if turn then 1 else 0) → writer_digit ≡ (if writer then 1 else 0) → codes "rwlock turn=" ++ (decimal turn_digit ++ (codes " starved=" ++ (decimal starved ++ (codes " writer=" ++ (decimal writer_digit ++ (codes " readers=" ++ (decimal readers ++ (codes " value=" ++ decimal value)))))))) ≡ rwlock_text turn starved writer readers value
rwlock_is turn turn_digit starved writer writer_digit readers value is_turn is_writer =
    rw is_turn (rw is_writer (grouped_10 (codes "rwlock turn=") (flag_text turn) (codes " starved=") (decimal starved) (codes " writer=") (flag_text writer) (codes " readers=") (decimal readers) (codes " value=") (decimal value)))

pub semaphore_is : (available limit : ℕ) → codes "semaphore available=" ++ (decimal available ++ (codes " limit=" ++ decimal limit)) ≡ semaphore_text available limit
semaphore_is available limit = grouped_4 (codes "semaphore available=") (decimal available) (codes " limit=") (decimal limit)

pub pool_is : (available limit : ℕ) → codes "pool available=" ++ (decimal available ++ (codes " limit=" ++ decimal limit)) ≡ pool_text available limit
pool_is available limit = grouped_4 (codes "pool available=") (decimal available) (codes " limit=") (decimal limit)

pub pool_lock_is : (locked : Bool) (digit starved : ℕ) → digit ≡ (if locked then 1 else 0) → codes " locked=" ++ (decimal digit ++ (codes " starved=" ++ decimal starved)) ≡ pool_lock_text locked starved
pool_lock_is locked digit starved is_locked = rw is_locked (grouped_4 (codes " locked=") (flag_text locked) (codes " starved=") (decimal starved))

pub barrier_is : (count generation : ℕ) (locked : Bool) (digit starved : ℕ) → digit ≡ (if locked then 1 else 0) → codes "barrier count=" ++ (decimal count ++ (codes " generation=" ++ (decimal generation ++ (codes " locked=" ++ (decimal digit ++ (codes " starved=" ++ decimal starved)))))) ≡ barrier_text count generation locked starved
barrier_is count generation locked digit starved is_locked =
    rw is_locked (grouped_8 (codes "barrier count=") (decimal count) (codes " generation=") (decimal generation) (codes " locked=") (flag_text locked) (codes " starved=") (decimal starved))
