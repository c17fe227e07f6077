-- The invariant holds at the start and after every call of a job. So a writer that is in is alone: another writer
-- would
-- hold element 1 with it, which has one holder, and a reader would be in at a counter that the writer keeps empty.
use Rattle.std.proofs.Common.{ℕ, sym, refl, subst, arith}
use Rattle.queues.specs.Table.{Plan, Lock}
use Rattle.queues.specs.Counters.{Marks}
use Rattle.queues.specs.Invariant.{Safe}
use Rattle.queues.proofs.Sums.{total_zero}
use Rattle.queues.proofs.QueueRows.{fine_start, one_writer}
use Rattle.queues.specs.Jobs.{fresh_lock, Sensible, Jobs, start, stepped, asked_write, asked_read, left_write}
use Rattle.queues.specs.Jobs.{left_read, Exclusion}
use Rattle.queues.proofs.CounterRows.{bits, safe_row, safe_ask_write, safe_ask_read, safe_leave_write}
use Rattle.queues.proofs.CounterRows.{safe_leave_read, no_reader}

-- at the start
pub safe_start : (P : ℕ) (L : Plan) → Safe P L fresh_lock (λ c. 0)
safe_start P L =
    record {
      fine = fine_start L;
      counted = record {
        each = λ c l.
            let z = total_zero P in
            record { sum = omega arith; small = omega arith; bits = omega arith; stands = λ w. absurd (omega arith) };
        marked = λ p c l w. absurd w;
        kept = λ p c l w. absurd w;
        seen = λ p k n e. absurd (subst (λ g. Marks g k) (sym e) tt);
      };
      within = λ p. tt;
    }

-- after every job
pub safe_job : (P : ℕ) (L : Plan) → Sensible P L → (s : Lock) → Jobs P L s → (bit : ℕ → ℕ) × Safe P L s bit
safe_job P L g s start = ((λ c. 0), safe_start P L)
safe_job P L g s (stepped s₀ p o j) =
    let w = safe_job P L g s₀ j in (
      bits P L g s₀ w.0 w.1 (s₀.place p),
      safe_row P L g s₀ w.0 w.1 p o
          (s₀.place p) refl,
    )
safe_job P L g s (asked_write s₀ p o e j) =
    let w = safe_job P L g s₀ j in (
      w.0,
      safe_ask_write P L g s₀ w.0 w.1 p o
          e,
    )
safe_job P L g s (asked_read s₀ p e j) =
    let w = safe_job P L g s₀ j in (
      w.0,
      safe_ask_read P L g s₀ w.0 w.1 p e,
    )
safe_job P L g s (left_write s₀ p e j) =
    let w = safe_job P L g s₀ j in (
      w.0,
      safe_leave_write P L g s₀ w.0 w.1 p
          e,
    )
safe_job P L g s (left_read s₀ p on e j) =
    let w = safe_job P L g s₀ j in (
      w.0,
      safe_leave_read P L g s₀ w.0 w.1 p
          on e,
    )

-- so exclusion holds after every job
pub exclusion : Exclusion
exclusion P L g s j p q o o' a =
    let w = safe_job P L g s j in (
      (λ b. one_writer L g.tree g.small s w.1.fine p q o o' (g.root p q o o') a b),
      (λ b.
          no_reader P L g s w.0 w.1 p q
          o' a b),
    )
