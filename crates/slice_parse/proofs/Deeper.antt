-- A block inside another.
use Rattle.std.proofs.Common.{◌≡◌, ℕ, suc, ◌+◌, ◌-◌, ◌<◌, List, ap, arith, add-one}
use Rattle.slice_parse.specs.Combinators.{Token}
use Rattle.slice_parse.specs.Rules.{body, block, procs}

pub block_inside : (terms turns depth : ℕ) (ts : List Token) → 0 < depth → block terms turns depth ts ≡ body terms turns (block terms turns (depth - 1)) ts
unfolding block
block_inside terms turns depth ts some = let e : depth ≡ suc (depth - 1) = omega arith in ap (λ k. block terms turns k ts) e

pub one_deeper : (terms turns depth : ℕ) → procs terms turns (depth + 1) ≡ procs terms turns (suc depth)
one_deeper terms turns depth = ap (procs terms turns) (add-one depth)
