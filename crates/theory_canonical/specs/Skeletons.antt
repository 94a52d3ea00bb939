-- The skeleton of a type: what is left of it when monotypes and formulas are forgotten.
use Rattle.htt_syntax.specs.Trees.{TyTree, y_mono, y_fun, y_all, y_hoare, y_at}

pub data Skeleton : Type 0 where
  -- a monotype, and a computation
  sk_o sk_c : Skeleton
  sk_arrow : Skeleton → Skeleton → Skeleton
  -- a type under a monotype
  sk_all : Skeleton → Skeleton

unfoldable pub skeleton : TyTree → Skeleton
skeleton (y_mono mono) = sk_o
skeleton (y_fun argument answer) = sk_arrow (skeleton argument) (skeleton answer)
skeleton (y_all body) = sk_all (skeleton body)
skeleton (y_hoare spec) = sk_c
skeleton (y_at at ty) = skeleton ty
