-- Worked examples: constraints, and texts of both forms.
use Rattle.std.proofs.Common.{◌≡◌, refl, arith, inl, inr, [], ◌∷◌, Some, None, true, false}
use Rattle.std.specs.Prelude.{codes, pos, negsuc}
use Rattle.nz_text.proofs.Gaps.{IsGap-nil, IsGap-blank}
use Rattle.nz_input.specs.declared.kind.Kind.TheVariants as kind
use Rattle.nz_symbolic.specs.declared.symbol.Sign.TheVariants.{Plus, Minus}
use Rattle.nz_symbolic.specs.declared.symbol.Relation.{Relation}
use Rattle.nz_symbolic.specs.declared.symbol.Relation.TheVariants.{AtLeast, AtMost, Above, Below, Equal}
use Rattle.nz_symbolic.specs.declared.symbol.OldType.TheVariants as old
use Rattle.nz_symbolic.specs.declared.symbol.Demand.TheVariants.{Compared, Congruent}
use Rattle.nz_symbolic.specs.Constraints.{Term, Constant, Bare, Scaled, Sum, Constraint, one_row, item_of}
use Rattle.nz_symbolic.specs.Symbols.{Symbolic}
use Rattle.nz_symbolic.specs.Texts.{IsNewTextOf, IsOldTextOf, IsAnyTextOf}

-- ---- constraints

-- a sum of one term
abbrev pub alone : Term → Sum
alone t = record { lead = None; first = t; others = [] }

abbrev pub compared : Sum → Relation → Sum → Constraint
compared l r s = record { left = l; demand = Compared r; right = s }

-- 2x[1] >= 3
abbrev pub twice_at_least_three : Constraint
twice_at_least_three = compared (alone (Scaled 2 false 1)) AtLeast (alone (Constant 3))

twice_item : item_of 1 twice_at_least_three ≡ one_row kind.InhomInequalities (pos 2 ∷ negsuc 2 ∷ [])
twice_item = refl

-- x[1] + x[2]
abbrev pub both : Sum
both = record { lead = None; first = Bare 1; others = record { sign = Plus; term = Bare 2 } ∷ [] }

-- x[1] + x[2] ~ 0 (2)
abbrev pub even : Constraint
even = record { left = both; demand = Congruent 2; right = alone (Constant 0) }

even_item : item_of 2 even ≡ one_row kind.Congruences (pos 1 ∷ pos 1 ∷ pos 2 ∷ [])
even_item = refl

-- - 3x[2] + 1, with a constant
abbrev pub steep : Sum
steep = record { lead = Some Minus; first = Scaled 3 true 2; others = record { sign = Plus; term = Constant 1 } ∷ record { sign = Minus; term = Bare 1 } ∷ [] }

-- x[1] + x[2] + 5 on the right: the constant is -4
abbrev pub wide : Sum
wide = record { lead = None; first = Bare 1; others = record { sign = Plus; term = Bare 2 } ∷ record { sign = Plus; term = Constant 5 } ∷ [] }

steep_atleast : item_of 2 (compared steep AtLeast wide) ≡ one_row kind.InhomInequalities (negsuc 1 ∷ negsuc 3 ∷ negsuc 3 ∷ [])
steep_atleast = refl

steep_atmost : item_of 2 (compared steep AtMost wide) ≡ one_row kind.InhomInequalities (pos 2 ∷ pos 4 ∷ pos 4 ∷ [])
steep_atmost = refl

steep_above : item_of 2 (compared steep Above wide) ≡ one_row kind.InhomInequalities (negsuc 1 ∷ negsuc 3 ∷ negsuc 4 ∷ [])
steep_above = refl

steep_below : item_of 2 (compared steep Below wide) ≡ one_row kind.InhomInequalities (pos 2 ∷ pos 4 ∷ pos 3 ∷ [])
steep_below = refl

steep_equal : item_of 2 (compared steep Equal wide) ≡ one_row kind.InhomEquations (negsuc 1 ∷ negsuc 3 ∷ negsuc 3 ∷ [])
steep_equal = refl

steep_multiple : item_of 2 (record { left = steep; demand = Congruent 7; right = wide }) ≡ one_row kind.InhomCongruences (negsuc 1 ∷ negsuc 3 ∷ negsuc 3 ∷ pos 7 ∷ [])
steep_multiple = refl

both_atleast : item_of 2 (compared both AtLeast (alone (Constant 0))) ≡ one_row kind.Inequalities (pos 1 ∷ pos 1 ∷ [])
both_atleast = refl

both_atmost : item_of 2 (compared both AtMost (alone (Constant 0))) ≡ one_row kind.Inequalities (negsuc 0 ∷ negsuc 0 ∷ [])
both_atmost = refl

both_above : item_of 2 (compared both Above (alone (Constant 0))) ≡ one_row kind.StrictInequalities (pos 1 ∷ pos 1 ∷ [])
both_above = refl

both_below : item_of 2 (compared both Below (alone (Constant 0))) ≡ one_row kind.StrictInequalities (negsuc 0 ∷ negsuc 0 ∷ [])
both_below = refl

both_equal : item_of 2 (compared both Equal (alone (Constant 0))) ≡ one_row kind.Equations (pos 1 ∷ pos 1 ∷ [])
both_equal = refl

-- ---- texts

-- 2x[1] >= 3
pub row_twice : IsNewTextOf (codes "amb_space 1 constraints 1 symbolic 2x[1] >= 3;") (record { amb = 1; items = one_row kind.InhomInequalities (pos 2 ∷ negsuc 2 ∷ []) ∷ []; goals = [] })
row_twice = record {
  dimension = 1;
  entries = Symbolic (twice_at_least_three ∷ []) ∷ [];
  fit = ((record { left_is = record { first_is = (omega arith, omega arith); others_are = tt; most = omega arith }; right_is = record { first_is = tt; others_are = tt; most = omega arith } }, tt), tt);
  is = refl;
  laid = (
    codes "",
    codes "amb_space",
    codes " 1 constraints 1 symbolic 2x[1] >= 3;",
    refl,
    IsGap-nil,
    refl,
    (
      codes " ",
      codes "1",
      codes " constraints 1 symbolic 2x[1] >= 3;",
      refl,
      (IsGap-blank 32 [] refl IsGap-nil, λ e. cc),
      (((λ e. cc), ((omega arith, omega arith), tt), refl), omega arith, omega arith),
      (
        codes " ",
        codes "constraints",
        codes " 1 symbolic 2x[1] >= 3;",
        refl,
        (IsGap-blank 32 [] refl IsGap-nil, λ e. cc),
        refl,
        (
          codes " ",
          codes "1",
          codes " symbolic 2x[1] >= 3;",
          refl,
          (IsGap-blank 32 [] refl IsGap-nil, λ e. cc),
          (((λ e. cc), ((omega arith, omega arith), tt), refl), omega arith),
          (
            codes " ",
            codes "symbolic",
            codes " 2x[1] >= 3;",
            refl,
            (IsGap-blank 32 [] refl IsGap-nil, λ e. cc),
            refl,
            (
              codes " ",
              codes "2",
              codes "x[1] >= 3;",
              refl,
              (IsGap-blank 32 [] refl IsGap-nil, λ e. cc),
              (((λ e. cc), ((omega arith, omega arith), tt), refl), omega arith),
              (
                codes "",
                codes "x",
                codes "[1] >= 3;",
                refl,
                IsGap-nil,
                refl,
                (
                  codes "",
                  codes "[",
                  codes "1] >= 3;",
                  refl,
                  IsGap-nil,
                  refl,
                  (
                    codes "",
                    codes "1",
                    codes "] >= 3;",
                    refl,
                    IsGap-nil,
                    ((λ e. cc), ((omega arith, omega arith), tt), refl),
                    (
                      codes "",
                      codes "]",
                      codes " >= 3;",
                      refl,
                      IsGap-nil,
                      refl,
                      (
                        codes " ",
                        codes ">=",
                        codes " 3;",
                        refl,
                        IsGap-blank 32 [] refl IsGap-nil,
                        refl,
                        (
                          codes " ",
                          codes "3",
                          codes ";",
                          refl,
                          IsGap-blank 32 [] refl IsGap-nil,
                          (((λ e. cc), ((omega arith, omega arith), tt), refl), omega arith),
                          (codes "", codes ";", codes "", refl, IsGap-nil, refl, IsGap-nil),
                        ),
                      ),
                    ),
                  ),
                ),
              ),
            ),
          ),
        ),
      ),
    ),
  );
}

-- both coordinates at least 0, and their sum even
pub row_even : IsNewTextOf (codes "amb_space 2 constraints 3 symbolic x[1] >= 0; x[2] >= 0; x[1] + x[2] ~ 0 (2);") (record { amb = 2; items = one_row kind.Inequalities (pos 1 ∷ pos 0 ∷ []) ∷ one_row kind.Inequalities (pos 0 ∷ pos 1 ∷ []) ∷ one_row kind.Congruences (pos 1 ∷ pos 1 ∷ pos 2 ∷ []) ∷ []; goals = [] })
row_even = record {
  dimension = 2;
  entries = Symbolic (compared (alone (Bare 1)) AtLeast (alone (Constant 0)) ∷ compared (alone (Bare 2)) AtLeast (alone (Constant 0)) ∷ even ∷ []) ∷ [];
  fit = ((record { left_is = record { first_is = (omega arith, omega arith); others_are = tt; most = omega arith }; right_is = record { first_is = tt; others_are = tt; most = omega arith } }, (record { left_is = record { first_is = (omega arith, omega arith); others_are = tt; most = omega arith }; right_is = record { first_is = tt; others_are = tt; most = omega arith } }, (record { left_is = record { first_is = (omega arith, omega arith); others_are = ((omega arith, omega arith), tt); most = omega arith }; right_is = record { first_is = tt; others_are = tt; most = omega arith } }, tt))), tt);
  is = refl;
  laid = (
    codes "",
    codes "amb_space",
    codes " 2 constraints 3 symbolic x[1] >= 0; x[2] >= 0; x[1] + x[2] ~ 0 (2);",
    refl,
    IsGap-nil,
    refl,
    (
      codes " ",
      codes "2",
      codes " constraints 3 symbolic x[1] >= 0; x[2] >= 0; x[1] + x[2] ~ 0 (2);",
      refl,
      (IsGap-blank 32 [] refl IsGap-nil, λ e. cc),
      (((λ e. cc), ((omega arith, omega arith), tt), refl), omega arith, omega arith),
      (
        codes " ",
        codes "constraints",
        codes " 3 symbolic x[1] >= 0; x[2] >= 0; x[1] + x[2] ~ 0 (2);",
        refl,
        (IsGap-blank 32 [] refl IsGap-nil, λ e. cc),
        refl,
        (
          codes " ",
          codes "3",
          codes " symbolic x[1] >= 0; x[2] >= 0; x[1] + x[2] ~ 0 (2);",
          refl,
          (IsGap-blank 32 [] refl IsGap-nil, λ e. cc),
          (((λ e. cc), ((omega arith, omega arith), tt), refl), omega arith),
          (
            codes " ",
            codes "symbolic",
            codes " x[1] >= 0; x[2] >= 0; x[1] + x[2] ~ 0 (2);",
            refl,
            (IsGap-blank 32 [] refl IsGap-nil, λ e. cc),
            refl,
            (
              codes " ",
              codes "x",
              codes "[1] >= 0; x[2] >= 0; x[1] + x[2] ~ 0 (2);",
              refl,
              (IsGap-blank 32 [] refl IsGap-nil, λ e. cc),
              refl,
              (
                codes "",
                codes "[",
                codes "1] >= 0; x[2] >= 0; x[1] + x[2] ~ 0 (2);",
                refl,
                IsGap-nil,
                refl,
                (
                  codes "",
                  codes "1",
                  codes "] >= 0; x[2] >= 0; x[1] + x[2] ~ 0 (2);",
                  refl,
                  IsGap-nil,
                  ((λ e. cc), ((omega arith, omega arith), tt), refl),
                  (
                    codes "",
                    codes "]",
                    codes " >= 0; x[2] >= 0; x[1] + x[2] ~ 0 (2);",
                    refl,
                    IsGap-nil,
                    refl,
                    (
                      codes " ",
                      codes ">=",
                      codes " 0; x[2] >= 0; x[1] + x[2] ~ 0 (2);",
                      refl,
                      IsGap-blank 32 [] refl IsGap-nil,
                      refl,
                      (
                        codes " ",
                        codes "0",
                        codes "; x[2] >= 0; x[1] + x[2] ~ 0 (2);",
                        refl,
                        IsGap-blank 32 [] refl IsGap-nil,
                        (((λ e. cc), ((omega arith, omega arith), tt), refl), omega arith),
                        (
                          codes "",
                          codes ";",
                          codes " x[2] >= 0; x[1] + x[2] ~ 0 (2);",
                          refl,
                          IsGap-nil,
                          refl,
                          (
                            codes " ",
                            codes "x",
                            codes "[2] >= 0; x[1] + x[2] ~ 0 (2);",
                            refl,
                            IsGap-blank 32 [] refl IsGap-nil,
                            refl,
                            (
                              codes "",
                              codes "[",
                              codes "2] >= 0; x[1] + x[2] ~ 0 (2);",
                              refl,
                              IsGap-nil,
                              refl,
                              (
                                codes "",
                                codes "2",
                                codes "] >= 0; x[1] + x[2] ~ 0 (2);",
                                refl,
                                IsGap-nil,
                                ((λ e. cc), ((omega arith, omega arith), tt), refl),
                                (
                                  codes "",
                                  codes "]",
                                  codes " >= 0; x[1] + x[2] ~ 0 (2);",
                                  refl,
                                  IsGap-nil,
                                  refl,
                                  (
                                    codes " ",
                                    codes ">=",
                                    codes " 0; x[1] + x[2] ~ 0 (2);",
                                    refl,
                                    IsGap-blank 32 [] refl IsGap-nil,
                                    refl,
                                    (
                                      codes " ",
                                      codes "0",
                                      codes "; x[1] + x[2] ~ 0 (2);",
                                      refl,
                                      IsGap-blank 32 [] refl IsGap-nil,
                                      (((λ e. cc), ((omega arith, omega arith), tt), refl), omega arith),
                                      (
                                        codes "",
                                        codes ";",
                                        codes " x[1] + x[2] ~ 0 (2);",
                                        refl,
                                        IsGap-nil,
                                        refl,
                                        (
                                          codes " ",
                                          codes "x",
                                          codes "[1] + x[2] ~ 0 (2);",
                                          refl,
                                          IsGap-blank 32 [] refl IsGap-nil,
                                          refl,
                                          (
                                            codes "",
                                            codes "[",
                                            codes "1] + x[2] ~ 0 (2);",
                                            refl,
                                            IsGap-nil,
                                            refl,
                                            (
                                              codes "",
                                              codes "1",
                                              codes "] + x[2] ~ 0 (2);",
                                              refl,
                                              IsGap-nil,
                                              ((λ e. cc), ((omega arith, omega arith), tt), refl),
                                              (
                                                codes "",
                                                codes "]",
                                                codes " + x[2] ~ 0 (2);",
                                                refl,
                                                IsGap-nil,
                                                refl,
                                                (
                                                  codes " ",
                                                  codes "+",
                                                  codes " x[2] ~ 0 (2);",
                                                  refl,
                                                  IsGap-blank 32 [] refl IsGap-nil,
                                                  refl,
                                                  (
                                                    codes " ",
                                                    codes "x",
                                                    codes "[2] ~ 0 (2);",
                                                    refl,
                                                    IsGap-blank 32 [] refl IsGap-nil,
                                                    refl,
                                                    (
                                                      codes "",
                                                      codes "[",
                                                      codes "2] ~ 0 (2);",
                                                      refl,
                                                      IsGap-nil,
                                                      refl,
                                                      (
                                                        codes "",
                                                        codes "2",
                                                        codes "] ~ 0 (2);",
                                                        refl,
                                                        IsGap-nil,
                                                        ((λ e. cc), ((omega arith, omega arith), tt), refl),
                                                        (
                                                          codes "",
                                                          codes "]",
                                                          codes " ~ 0 (2);",
                                                          refl,
                                                          IsGap-nil,
                                                          refl,
                                                          (
                                                            codes " ",
                                                            codes "~",
                                                            codes " 0 (2);",
                                                            refl,
                                                            IsGap-blank 32 [] refl IsGap-nil,
                                                            refl,
                                                            (
                                                              codes " ",
                                                              codes "0",
                                                              codes " (2);",
                                                              refl,
                                                              IsGap-blank 32 [] refl IsGap-nil,
                                                              (((λ e. cc), ((omega arith, omega arith), tt), refl), omega arith),
                                                              (
                                                                codes " ",
                                                                codes "(",
                                                                codes "2);",
                                                                refl,
                                                                IsGap-blank 32 [] refl IsGap-nil,
                                                                refl,
                                                                (
                                                                  codes "",
                                                                  codes "2",
                                                                  codes ");",
                                                                  refl,
                                                                  IsGap-nil,
                                                                  (((λ e. cc), ((omega arith, omega arith), tt), refl), omega arith, omega arith),
                                                                  (
                                                                    codes "",
                                                                    codes ")",
                                                                    codes ";",
                                                                    refl,
                                                                    IsGap-nil,
                                                                    refl,
                                                                    (codes "", codes ";", codes "", refl, IsGap-nil, refl, IsGap-nil),
                                                                  ),
                                                                ),
                                                              ),
                                                            ),
                                                          ),
                                                        ),
                                                      ),
                                                    ),
                                                  ),
                                                ),
                                              ),
                                            ),
                                          ),
                                        ),
                                      ),
                                    ),
                                  ),
                                ),
                              ),
                            ),
                          ),
                        ),
                      ),
                    ),
                  ),
                ),
              ),
            ),
          ),
        ),
      ),
    ),
  );
}

-- the same as matrices of the old form
pub row_even_old : IsOldTextOf (codes "1 3 1 1 2 congruences 2 2 1 0 0 1 inequalities") (record { amb = 2; items = record { kind = kind.Congruences; rows = (pos 1 ∷ pos 1 ∷ pos 2 ∷ []) ∷ [] } ∷ record { kind = kind.Inequalities; rows = (pos 1 ∷ pos 0 ∷ []) ∷ (pos 0 ∷ pos 1 ∷ []) ∷ [] } ∷ []; goals = [] })
row_even_old = record {
  dimension = 2;
  entries = record { type_is = old.Congruences; rows = (pos 1 ∷ pos 1 ∷ pos 2 ∷ []) ∷ [] } ∷ record { type_is = old.Inequalities; rows = (pos 1 ∷ pos 0 ∷ []) ∷ (pos 0 ∷ pos 1 ∷ []) ∷ [] } ∷ [];
  fit = (omega arith, omega arith, (λ e. cc), ((tt, (refl, tt)), ((tt, (refl, (refl, tt))), tt)));
  is = refl;
  laid = (
    codes "",
    codes "1",
    codes " 3 1 1 2 congruences 2 2 1 0 0 1 inequalities",
    refl,
    IsGap-nil,
    (((λ e. cc), ((omega arith, omega arith), tt), refl), omega arith),
    (
      codes " ",
      codes "3",
      codes " 1 1 2 congruences 2 2 1 0 0 1 inequalities",
      refl,
      (IsGap-blank 32 [] refl IsGap-nil, λ e. cc),
      ((λ e. cc), ((omega arith, omega arith), tt), refl),
      (
        codes " ",
        codes "1",
        codes " 1 2 congruences 2 2 1 0 0 1 inequalities",
        refl,
        (IsGap-blank 32 [] refl IsGap-nil, λ e. cc),
        ([], codes "1", 1, refl, ((λ e. cc), ((omega arith, omega arith), tt), refl), omega arith, inl (inl refl, refl)),
        (
          codes " ",
          codes "1",
          codes " 2 congruences 2 2 1 0 0 1 inequalities",
          refl,
          (IsGap-blank 32 [] refl IsGap-nil, λ e. cc),
          ([], codes "1", 1, refl, ((λ e. cc), ((omega arith, omega arith), tt), refl), omega arith, inl (inl refl, refl)),
          (
            codes " ",
            codes "2",
            codes " congruences 2 2 1 0 0 1 inequalities",
            refl,
            (IsGap-blank 32 [] refl IsGap-nil, λ e. cc),
            ([], codes "2", 2, refl, ((λ e. cc), ((omega arith, omega arith), tt), refl), omega arith, inl (inl refl, refl)),
            (
              codes " ",
              codes "congruences",
              codes " 2 2 1 0 0 1 inequalities",
              refl,
              (IsGap-blank 32 [] refl IsGap-nil, λ e. cc),
              refl,
              (
                codes " ",
                codes "2",
                codes " 2 1 0 0 1 inequalities",
                refl,
                (IsGap-blank 32 [] refl IsGap-nil, λ e. cc),
                (((λ e. cc), ((omega arith, omega arith), tt), refl), omega arith),
                (
                  codes " ",
                  codes "2",
                  codes " 1 0 0 1 inequalities",
                  refl,
                  (IsGap-blank 32 [] refl IsGap-nil, λ e. cc),
                  ((λ e. cc), ((omega arith, omega arith), tt), refl),
                  (
                    codes " ",
                    codes "1",
                    codes " 0 0 1 inequalities",
                    refl,
                    (IsGap-blank 32 [] refl IsGap-nil, λ e. cc),
                    ([], codes "1", 1, refl, ((λ e. cc), ((omega arith, omega arith), tt), refl), omega arith, inl (inl refl, refl)),
                    (
                      codes " ",
                      codes "0",
                      codes " 0 1 inequalities",
                      refl,
                      (IsGap-blank 32 [] refl IsGap-nil, λ e. cc),
                      ([], codes "0", 0, refl, ((λ e. cc), ((omega arith, omega arith), tt), refl), omega arith, inl (inl refl, refl)),
                      (
                        codes " ",
                        codes "0",
                        codes " 1 inequalities",
                        refl,
                        (IsGap-blank 32 [] refl IsGap-nil, λ e. cc),
                        ([], codes "0", 0, refl, ((λ e. cc), ((omega arith, omega arith), tt), refl), omega arith, inl (inl refl, refl)),
                        (
                          codes " ",
                          codes "1",
                          codes " inequalities",
                          refl,
                          (IsGap-blank 32 [] refl IsGap-nil, λ e. cc),
                          ([], codes "1", 1, refl, ((λ e. cc), ((omega arith, omega arith), tt), refl), omega arith, inl (inl refl, refl)),
                          (codes " ", codes "inequalities", codes "", refl, (IsGap-blank 32 [] refl IsGap-nil, λ e. cc), refl, IsGap-nil),
                        ),
                      ),
                    ),
                  ),
                ),
              ),
            ),
          ),
        ),
      ),
    ),
  );
}

-- a cone of the old form
pub row_cone_old : IsOldTextOf (codes "2 2 1 3 2 1 integral_closure") (record { amb = 2; items = record { kind = kind.Cone; rows = (pos 1 ∷ pos 3 ∷ []) ∷ (pos 2 ∷ pos 1 ∷ []) ∷ [] } ∷ []; goals = [] })
row_cone_old = record {
  dimension = 2;
  entries = record { type_is = old.IntegralClosure; rows = (pos 1 ∷ pos 3 ∷ []) ∷ (pos 2 ∷ pos 1 ∷ []) ∷ [] } ∷ [];
  fit = (omega arith, omega arith, (λ e. cc), ((tt, (refl, (refl, tt))), tt));
  is = refl;
  laid = (
    codes "",
    codes "2",
    codes " 2 1 3 2 1 integral_closure",
    refl,
    IsGap-nil,
    (((λ e. cc), ((omega arith, omega arith), tt), refl), omega arith),
    (
      codes " ",
      codes "2",
      codes " 1 3 2 1 integral_closure",
      refl,
      (IsGap-blank 32 [] refl IsGap-nil, λ e. cc),
      ((λ e. cc), ((omega arith, omega arith), tt), refl),
      (
        codes " ",
        codes "1",
        codes " 3 2 1 integral_closure",
        refl,
        (IsGap-blank 32 [] refl IsGap-nil, λ e. cc),
        ([], codes "1", 1, refl, ((λ e. cc), ((omega arith, omega arith), tt), refl), omega arith, inl (inl refl, refl)),
        (
          codes " ",
          codes "3",
          codes " 2 1 integral_closure",
          refl,
          (IsGap-blank 32 [] refl IsGap-nil, λ e. cc),
          ([], codes "3", 3, refl, ((λ e. cc), ((omega arith, omega arith), tt), refl), omega arith, inl (inl refl, refl)),
          (
            codes " ",
            codes "2",
            codes " 1 integral_closure",
            refl,
            (IsGap-blank 32 [] refl IsGap-nil, λ e. cc),
            ([], codes "2", 2, refl, ((λ e. cc), ((omega arith, omega arith), tt), refl), omega arith, inl (inl refl, refl)),
            (
              codes " ",
              codes "1",
              codes " integral_closure",
              refl,
              (IsGap-blank 32 [] refl IsGap-nil, λ e. cc),
              ([], codes "1", 1, refl, ((λ e. cc), ((omega arith, omega arith), tt), refl), omega arith, inl (inl refl, refl)),
              (codes " ", codes "integral_closure", codes "", refl, (IsGap-blank 32 [] refl IsGap-nil, λ e. cc), refl, IsGap-nil),
            ),
          ),
        ),
      ),
    ),
  );
}

pub any_text : IsAnyTextOf (codes "2 2 1 3 2 1 integral_closure") (record { amb = 2; items = record { kind = kind.Cone; rows = (pos 1 ∷ pos 3 ∷ []) ∷ (pos 2 ∷ pos 1 ∷ []) ∷ [] } ∷ []; goals = [] })
any_text = inr row_cone_old
