-- What a memory means, and what each of its operations answers and leaves.
use Rattle.std.specs.Prelude.{ℕ, ◌+◌, ◌%◌, ◌^◌, cond, ◌&&◌, Ok, Err, Result, ◌==◌, nat_lt}
use Rattle.refusal.specs.declared.Refusal.{Refusal}
use Rattle.refusal.specs.declared.Refusal.TheVariants.{UnknownHome, UnknownOffset}
use Rattle.memory.specs.Sizes.{depart_offset}

-- The meaning of a memory: its number of homes, and the word at each home and offset.
pub record Words : Type 0 where
  pub count : ℕ
  pub word : ℕ → ℕ → ℕ

-- At `count` homes: refused for the home, else refused for the offset, else x.
abbrev pub refusing : {A : Type 0} → ℕ → ℕ → ℕ → (Refusal → A) → A → A
refusing count home offset refused x =
    cond (home == 0) (refused UnknownHome)
    (cond (nat_lt count home) (refused UnknownHome) (cond (nat_lt depart_offset offset) (refused UnknownOffset) x))

-- the words with w at one home and offset, whatever stood there
abbrev pub storing : Words → ℕ → ℕ → ℕ → Words
storing ws home offset w = record {
  count = ws.count;
  word = λ h o. cond (h == home && o == offset) w (ws.word h o);
}

-- what get answers, and swap, add and cas too: the word before, or the refusal
abbrev pub got : Words → ℕ → ℕ → Result ℕ Refusal
got ws home offset = refusing ws.count home offset Err (Ok (ws.word home offset))

-- what put answers
abbrev pub accepted : Words → ℕ → ℕ → Result (Unit {0}) Refusal
accepted ws home offset = refusing ws.count home offset Err (Ok tt)

-- the words after a put or a swap of w
abbrev pub written : Words → ℕ → ℕ → ℕ → Words
written ws home offset w = refusing ws.count home offset (λ _. ws) (storing ws home offset w)

-- the words after an add of w
abbrev pub added : Words → ℕ → ℕ → ℕ → Words
added ws home offset w = written ws home offset ((ws.word home offset + w) % 2 ^ 64)

-- the words after a cas from w to v
abbrev pub exchanged : Words → ℕ → ℕ → ℕ → ℕ → Words
exchanged ws home offset w v = cond (ws.word home offset == w) (written ws home offset v) ws
