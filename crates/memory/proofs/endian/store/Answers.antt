-- The part that was written is the word's bytes, and what lies behind it is as it was.
use Rattle.std.proofs.Common.{◌≡◌, ℕ, ◌+◌, ◌-◌, ◌≤◌, List, length, w64, ap, ◌∙◌, arith, rules}
use Rattle.std.proofs.lemmas.List.{places}
use Rattle.std.proofs.lemmas.Nat.{from_be_bytes-to_be_bytes_8}
use Rattle.std.proofs.lemmas.Slice.{between-put_mid, drop-put_mid}
use Rattle.std.specs.Int.{from_be_bytes}
use Rattle.std.specs.List.{between}
use Rattle.memory.specs.Layout.{be_word}
use Rattle.memory.proofs.endian.store.Goals as goal

spelt : (xs : List ℕ) (a : ℕ) → a + 8 ≤ length xs → be_word xs a ≡ from_be_bytes w64 (between a (a + 8) xs)
spelt xs a h = search (rules, places)

pub returns-clause-here : goal.returns-clause-here
returns-clause-here c =
    let a = c.args.at in
    let e = c.copy_from_slice.ensures.after ∙ c.to_be_bytes-spelt.ensures in
    let n : length c.copy_from_slice.new.self ≡ a + 8 - a = ap length e ∙ omega arith in
    spelt _ a (search rules)
    ∙ ap (from_be_bytes w64) (between-put_mid a _ c.args.bytes.now c.copy_from_slice.new.self (a + 8) (omega arith) n ∙ e)
    ∙ from_be_bytes-to_be_bytes_8 c.args.word c.ranges.word.fits

pub returns-clause-behind : goal.returns-clause-behind
returns-clause-behind c =
    let e = c.copy_from_slice.ensures.after ∙ c.to_be_bytes-spelt.ensures in
    drop-put_mid c.args.at _ c.args.bytes.now c.copy_from_slice.new.self (c.args.at + 8) (omega arith) (omega arith) (ap length e ∙ omega arith)
