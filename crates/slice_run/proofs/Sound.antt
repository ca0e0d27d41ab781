-- What is true of the board of a well-formed core all along.
use Rattle.std.proofs.Common.{◌≡◌, ℕ, ◌+◌, ◌-◌, ◌++◌, ◌∷◌, List, [], map, Bool, true, sym, subst}
use Rattle.slice_num.specs.Rational.{Rational, IsAtMost}
use Rattle.slice_num.specs.declared.interval.Interval.{Interval}
use Rattle.slice_core.specs.Tree.{Tree, Ask, Set, Cut, Join, Test, Give}
use Rattle.slice_core.specs.WellFormed.{IsFormed}
use Rattle.slice_num.specs.Pieces.{piece_at, is_held}
use Rattle.slice_core.specs.Run.{Piece, Board, first_board, ask_on, cut_on, join_on, give_on, left_piece, right_piece, before_point, after_point}
use Rattle.slice_core.specs.declared.node.Lin.{Lin}
use Rattle.slice_num.specs.declared.cut_answer.CutAnswer.{CutAnswer}
use Rattle.slice_core.proofs.FormedLaws.{ask_formed, set_formed, cut_formed, join_formed, test_formed, give_formed, held_emptied, held_cut, held_join}
use Rattle.slice_run.proofs.Ordered.{AllOrdered, ordered_at, ordered_emptied, ordered_cut, ordered_join, ordered_given, ordered_none, cake_ordered}

pub record Sound (agents count : ℕ) (tree : Tree) (b : Board) : Type 0 where
  pub formed : IsFormed agents (map is_held b.pieces) count tree
  pub pieces : AllOrdered b.pieces
  pub shares : AllOrdered b.shares

formed_along : (agents count : ℕ) (us ws : List Bool) (tree : Tree) → us ≡ ws → IsFormed agents ws count tree → IsFormed agents us count tree
formed_along agents count us ws tree e h = subst (λ xs. IsFormed agents xs count tree) (sym e) h

pub sound_first : (agents n : ℕ) (tree : Tree) → IsFormed agents (true ∷ []) 0 tree → Sound agents 0 tree (first_board agents n)
sound_first agents n tree formed = record { formed = formed; pieces = cake_ordered n; shares = ordered_none agents }

pub sound_ask : (agents count a p r : ℕ) (next : Tree) (b : Board) (v : Rational) → Sound agents count (Ask a p r next) b → Sound agents (count + 1) next (ask_on a v b)
sound_ask agents count a p r next b v s = record { formed = (ask_formed agents (map is_held b.pieces) count a p r next s.formed).then_formed; pieces = s.pieces; shares = s.shares }

pub sound_set : (agents count r : ℕ) (sum : Lin) (next : Tree) (b : Board) → Sound agents count (Set r sum next) b → Sound agents (count + 1) next b
sound_set agents count r sum next b s = record { formed = (set_formed agents (map is_held b.pieces) count r sum next s.formed).then_formed; pieces = s.pieces; shares = s.shares }

pub sound_cut : (agents count a p : ℕ) (amount : Lin) (l r : ℕ) (next : Tree) (b : Board) (share : Rational) (y : CutAnswer) (before : Piece) (i : Interval) (after : Piece) → Sound agents count (Cut a p amount l r next) b → piece_at b.pieces p ≡ before ++ i ∷ after
    → IsAtMost i.from y.point → IsAtMost y.point i.to → Sound agents count next (cut_on a p share y (left_piece before i y.point) (right_piece i y.point after) b)
sound_cut agents count a p amount l r next b share y before i after s parts low high = record {
  formed = formed_along agents count _ _ next (held_cut b.pieces p before (before_point i y.point) (after_point i y.point) after) (cut_formed agents (map is_held b.pieces) count a p amount l r next s.formed).then_formed;
  pieces = ordered_cut b.pieces p before i after y.point s.pieces parts low high;
  shares = s.shares;
}

pub sound_join : (agents count p q r : ℕ) (next : Tree) (b : Board) → Sound agents count (Join p q r next) b → Sound agents count next (join_on p q b)
sound_join agents count p q r next b s =
    let f = join_formed agents (map is_held b.pieces) count p q r next s.formed in
    record {
      formed = formed_along agents count _ _ next (held_join b.pieces p q f.first) f.then_formed;
      pieces = ordered_join b.pieces p q s.pieces;
      shares = s.shares;
    }

pub sound_yes : (agents count : ℕ) (left right : Lin) (strict : Bool) (at_yes at_no : Tree) (b : Board) → Sound agents count (Test left right strict at_yes at_no) b → Sound agents count at_yes b
sound_yes agents count left right strict at_yes at_no b s = record { formed = (test_formed agents (map is_held b.pieces) count left right strict at_yes at_no s.formed).yes_formed; pieces = s.pieces; shares = s.shares }

pub sound_no : (agents count : ℕ) (left right : Lin) (strict : Bool) (at_yes at_no : Tree) (b : Board) → Sound agents count (Test left right strict at_yes at_no) b → Sound agents count at_no b
sound_no agents count left right strict at_yes at_no b s = record { formed = (test_formed agents (map is_held b.pieces) count left right strict at_yes at_no s.formed).no_formed; pieces = s.pieces; shares = s.shares }

pub sound_give : (agents count p a : ℕ) (next : Tree) (b : Board) → Sound agents count (Give p a next) b → Sound agents count next (give_on p a b)
sound_give agents count p a next b s = record {
  formed = formed_along agents count _ _ next (held_emptied b.pieces p) (give_formed agents (map is_held b.pieces) count p a next s.formed).then_formed;
  pieces = ordered_emptied b.pieces p s.pieces;
  shares = ordered_given b.shares (a - 1) (piece_at b.pieces p) s.shares (ordered_at b.pieces p s.pieces);
}
