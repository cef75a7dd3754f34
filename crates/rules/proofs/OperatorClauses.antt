-- Operators, clause by clause: the laws by which code knows them. Assumes nothing.
use mathlib.Core.Path.{◌≡◌, refl}
use mathlib.Core.Bool.{false, not, ◌&&◌, ◌||◌}
use Prim.Native.Nat.{ℕ, zero, suc, ◌≤◌, ◌<◌}
use native.Mathlib.Omega.{arith}
use lib.IntN.{ℤ, ◌+ℤ◌, ◌-ℤ◌, ◌*ℤ◌}
use lib.ListN.{get_or-eq_default}
use lib.Signed.{lt_z, le_z}
use Rattle.words.specs.Words.{eq_z}
use Rattle.words.specs.Range.{fits}
use Rattle.words.specs.Answer.{got, stop, ◌>>◌, want}
use Rattle.tables.specs.declared.Value.{Value}
use Rattle.tables.specs.declared.Value.TheVariants.{Bool as Truth, Int}
use Rattle.tables.specs.declared.Kind.{Kind}
use Rattle.tables.specs.Values.{cell_of}
use Rattle.program.specs.declared.Operator.{Operator}
use Rattle.tables.specs.declared.Kind.TheVariants.{Nil as is_nil, Bool as is_bool, Int as is_int}
use Rattle.program.specs.declared.Operator.TheVariants.{Plus, Minus, Times, Below, AtMost, Equal, Unequal, AtLeast, Above, And, Or, Unknown}
use Rattle.rules.specs.Evaluation.{kind_of, ops, op_of, an_int, a_bool, the_nil, comparable, takes, gives, same, int_of, bool_of, ranged, made, apply}

pub no-op : (o : ℕ) → 11 < o → op_of o ≡ Unknown
unfolding op_of
no-op o h = get_or-eq_default ops Unknown {n = o} (omega arith)

-- the operator of a number

pub op-1 : op_of 1 ≡ Plus
unfolding op_of
op-1 = refl

pub op-2 : op_of 2 ≡ Minus
unfolding op_of
op-2 = refl

pub op-3 : op_of 3 ≡ Times
unfolding op_of
op-3 = refl

pub op-4 : op_of 4 ≡ Below
unfolding op_of
op-4 = refl

pub op-5 : op_of 5 ≡ AtMost
unfolding op_of
op-5 = refl

pub op-6 : op_of 6 ≡ Equal
unfolding op_of
op-6 = refl

pub op-7 : op_of 7 ≡ Unequal
unfolding op_of
op-7 = refl

pub op-8 : op_of 8 ≡ AtLeast
unfolding op_of
op-8 = refl

pub op-9 : op_of 9 ≡ Above
unfolding op_of
op-9 = refl

pub op-10 : op_of 10 ≡ And
unfolding op_of
op-10 = refl

pub op-11 : op_of 11 ≡ Or
unfolding op_of
op-11 = refl

pub op-other : (o : ℕ) → (1 ≤ o → 11 < o) → op_of o ≡ Unknown
unfolding op_of
op-other zero h = refl
op-other (suc o) h = no-op (suc o) (h (omega arith))

-- which kinds an operator takes
module _ (a b : Kind) where
  pub takes_first : (o : ℕ) → 1 ≤ o → o ≤ 5 → takes (op_of o) a b ≡ (an_int a && an_int b)
  unfolding takes op_of
  takes_first zero h l = absurd (omega arith)
  takes_first (suc zero) h l = refl
  takes_first (suc (suc zero)) h l = refl
  takes_first (suc (suc (suc zero))) h l = refl
  takes_first (suc (suc (suc (suc zero)))) h l = refl
  takes_first (suc (suc (suc (suc (suc zero))))) h l = refl
  takes_first (suc (suc (suc (suc (suc (suc o)))))) h l = absurd (omega arith)

  pub takes-equal : takes (op_of 6) a b ≡ comparable a b
  unfolding takes op_of
  takes-equal = refl

  pub takes-unequal : takes (op_of 7) a b ≡ comparable a b
  unfolding takes op_of
  takes-unequal = refl

  pub comparable-is : comparable a b ≡ ((an_int a && an_int b) || (a_bool a && a_bool b) || (the_nil a && the_nil b))
  unfolding comparable
  comparable-is = refl

  pub takes-eight : takes (op_of 8) a b ≡ (an_int a && an_int b)
  unfolding takes op_of
  takes-eight = refl

  pub takes-nine : takes (op_of 9) a b ≡ (an_int a && an_int b)
  unfolding takes op_of
  takes-nine = refl

  pub takes-ten : takes (op_of 10) a b ≡ (a_bool a && a_bool b)
  unfolding takes op_of
  takes-ten = refl

  pub takes-eleven : takes (op_of 11) a b ≡ (a_bool a && a_bool b)
  unfolding takes op_of
  takes-eleven = refl

  pub takes-zero : takes (op_of 0) a b ≡ false
  unfolding takes op_of
  takes-zero = refl

  pub takes_none : (o : ℕ) → 11 < o → takes (op_of o) a b ≡ false
  unfolding takes
  takes_none o h = rw (no-op o h)

-- what an operator makes of two values
module _ (a b : Value) where
  pub made-1 : made (op_of 1) a b ≡ ranged (int_of a +ℤ int_of b)
  unfolding made op_of
  made-1 = refl

  pub made-2 : made (op_of 2) a b ≡ ranged (int_of a -ℤ int_of b)
  unfolding made op_of
  made-2 = refl

  pub made-3 : made (op_of 3) a b ≡ ranged (int_of a *ℤ int_of b)
  unfolding made op_of
  made-3 = refl

  pub made-4 : made (op_of 4) a b ≡ got (Truth (lt_z (int_of a) (int_of b)))
  unfolding made op_of
  made-4 = refl

  pub made-5 : made (op_of 5) a b ≡ got (Truth (le_z (int_of a) (int_of b)))
  unfolding made op_of
  made-5 = refl

  pub made-6 : made (op_of 6) a b ≡ got (Truth (same a b))
  unfolding made op_of
  made-6 = refl

  pub made-7 : made (op_of 7) a b ≡ got (Truth (not (same a b)))
  unfolding made op_of
  made-7 = refl

  pub made-8 : made (op_of 8) a b ≡ got (Truth (le_z (int_of b) (int_of a)))
  unfolding made op_of
  made-8 = refl

  pub made-9 : made (op_of 9) a b ≡ got (Truth (lt_z (int_of b) (int_of a)))
  unfolding made op_of
  made-9 = refl

  pub made-10 : made (op_of 10) a b ≡ got (Truth (bool_of a && bool_of b))
  unfolding made op_of
  made-10 = refl

  pub made-11 : made (op_of 11) a b ≡ got (Truth (bool_of a || bool_of b))
  unfolding made op_of
  made-11 = refl

  pub made-0 : made (op_of 0) a b ≡ stop 8
  unfolding made op_of
  made-0 = refl

  pub made_none : (o : ℕ) → 11 < o → made (op_of o) a b ≡ stop 8
  unfolding made
  made_none o h = rw (no-op o h)

  pub same-is : same a b ≡ (eq_z (cell_of a).kind (cell_of b).kind && eq_z (cell_of a).payload (cell_of b).payload)
  unfolding same
  same-is = refl

  pub apply-is : (o : Operator) → apply o a b ≡ (want 8 (takes o (kind_of a) (kind_of b)) >> made o a b)
  unfolding apply
  apply-is o = refl

pub ranged-is : (z : ℤ) → ranged z ≡ (want 9 (fits z) >> got (Int z))
unfolding ranged
ranged-is z = refl

-- ---- the same by the operator itself

module _ (a b : Kind) where
  pub plus-takes : takes Plus a b ≡ (an_int a && an_int b)
  unfolding takes
  plus-takes = refl

  pub minus-takes : takes Minus a b ≡ (an_int a && an_int b)
  unfolding takes
  minus-takes = refl

  pub times-takes : takes Times a b ≡ (an_int a && an_int b)
  unfolding takes
  times-takes = refl

  pub below-takes : takes Below a b ≡ (an_int a && an_int b)
  unfolding takes
  below-takes = refl

  pub at-most-takes : takes AtMost a b ≡ (an_int a && an_int b)
  unfolding takes
  at-most-takes = refl

  pub equal-takes : takes Equal a b ≡ comparable a b
  unfolding takes
  equal-takes = refl

  pub unequal-takes : takes Unequal a b ≡ comparable a b
  unfolding takes
  unequal-takes = refl

  pub at-least-takes : takes AtLeast a b ≡ (an_int a && an_int b)
  unfolding takes
  at-least-takes = refl

  pub above-takes : takes Above a b ≡ (an_int a && an_int b)
  unfolding takes
  above-takes = refl

  pub and-takes : takes And a b ≡ (a_bool a && a_bool b)
  unfolding takes
  and-takes = refl

  pub or-takes : takes Or a b ≡ (a_bool a && a_bool b)
  unfolding takes
  or-takes = refl

  pub unknown-takes : takes Unknown a b ≡ false
  unfolding takes
  unknown-takes = refl

module _ (a b : Value) where
  pub plus-makes : made Plus a b ≡ ranged (int_of a +ℤ int_of b)
  unfolding made
  plus-makes = refl

  pub minus-makes : made Minus a b ≡ ranged (int_of a -ℤ int_of b)
  unfolding made
  minus-makes = refl

  pub times-makes : made Times a b ≡ ranged (int_of a *ℤ int_of b)
  unfolding made
  times-makes = refl

  pub below-makes : made Below a b ≡ got (Truth (lt_z (int_of a) (int_of b)))
  unfolding made
  below-makes = refl

  pub at-most-makes : made AtMost a b ≡ got (Truth (le_z (int_of a) (int_of b)))
  unfolding made
  at-most-makes = refl

  pub equal-makes : made Equal a b ≡ got (Truth (same a b))
  unfolding made
  equal-makes = refl

  pub unequal-makes : made Unequal a b ≡ got (Truth (not (same a b)))
  unfolding made
  unequal-makes = refl

  pub at-least-makes : made AtLeast a b ≡ got (Truth (le_z (int_of b) (int_of a)))
  unfolding made
  at-least-makes = refl

  pub above-makes : made Above a b ≡ got (Truth (lt_z (int_of b) (int_of a)))
  unfolding made
  above-makes = refl

  pub and-makes : made And a b ≡ got (Truth (bool_of a && bool_of b))
  unfolding made
  and-makes = refl

  pub or-makes : made Or a b ≡ got (Truth (bool_of a || bool_of b))
  unfolding made
  or-makes = refl

  pub unknown-makes : made Unknown a b ≡ stop 8
  unfolding made
  unknown-makes = refl

-- the kind that an operator gives
pub plus-gives : gives Plus ≡ is_int
unfolding gives
plus-gives = refl

pub minus-gives : gives Minus ≡ is_int
unfolding gives
minus-gives = refl

pub times-gives : gives Times ≡ is_int
unfolding gives
times-gives = refl

pub below-gives : gives Below ≡ is_bool
unfolding gives
below-gives = refl

pub at-most-gives : gives AtMost ≡ is_bool
unfolding gives
at-most-gives = refl

pub equal-gives : gives Equal ≡ is_bool
unfolding gives
equal-gives = refl

pub unequal-gives : gives Unequal ≡ is_bool
unfolding gives
unequal-gives = refl

pub at-least-gives : gives AtLeast ≡ is_bool
unfolding gives
at-least-gives = refl

pub above-gives : gives Above ≡ is_bool
unfolding gives
above-gives = refl

pub and-gives : gives And ≡ is_bool
unfolding gives
and-gives = refl

pub or-gives : gives Or ≡ is_bool
unfolding gives
or-gives = refl

pub unknown-gives : gives Unknown ≡ is_nil
unfolding gives
unknown-gives = refl

-- the laws for the code that goes by an operator
pub ruleset operator_numbers = (op-1, op-2, op-3, op-4, op-5, op-6, op-7, op-8, op-9, op-10, op-11, op-other)

pub ruleset kinds_taken = (
  plus-takes,
  minus-takes,
  times-takes,
  below-takes,
  at-most-takes,
  equal-takes,
  unequal-takes,
  at-least-takes,
  above-takes,
  and-takes,
  or-takes,
  unknown-takes,
)

pub ruleset values_made = (
  plus-makes,
  minus-makes,
  times-makes,
  below-makes,
  at-most-makes,
  equal-makes,
  unequal-makes,
  at-least-makes,
  above-makes,
  and-makes,
  or-makes,
  unknown-makes,
)

pub ruleset kinds_given = (
  plus-gives,
  minus-gives,
  times-gives,
  below-gives,
  at-most-gives,
  equal-gives,
  unequal-gives,
  at-least-gives,
  above-gives,
  and-gives,
  or-gives,
  unknown-gives,
)
