-- For the proofs: the examples, each step by computation.
use Rattle.std.proofs.Common.{◌≡◌, ℕ, List, [], ◌∷◌, arith, refl, inl}
use Rattle.redo_durability.specs.Store.{Answer.Kept}
use Rattle.redo_durability.specs.Machine.{State, start, installed, sending, handling, accepting, crashed, fenced, tailed, swept}
use Rattle.redo_durability.specs.Examples.{itself, TakenOverIsDurable, TooLateIsLost}

some_front : (x : ℕ) (xs : List ℕ) → x ∷ xs ≡ [] → ⊥
some_front x xs e = cc

abbrev s1 : State ℕ
s1 = installed (start itself []) 10

abbrev s2 : State ℕ
s2 = sending itself s1

abbrev s3 : State ℕ
s3 = installed s2 20

abbrev s4 : State ℕ
s4 = handling itself s3 1 0 (10 ∷ [])

abbrev s5 : State ℕ
s5 = accepting s4 (10 ∷ []) (Kept 10)

abbrev s6 : State ℕ
s6 = sending itself s5

abbrev s7 : State ℕ
s7 = installed s6 30

abbrev s8 : State ℕ
s8 = crashed s7

abbrev s9 : State ℕ
s9 = handling itself s8 1 10 (20 ∷ [])

abbrev s10 : State ℕ
s10 = fenced s9 2

abbrev s12 : State ℕ
s12 = tailed s10

abbrev s13 : State ℕ
s13 = swept itself s12

abbrev s14 : State ℕ
s14 = installed s13 40

abbrev s15 : State ℕ
s15 = sending itself s14

abbrev s16 : State ℕ
s16 = handling itself s15 2 30 (40 ∷ [])

abbrev s17 : State ℕ
s17 = accepting s16 (40 ∷ []) (Kept 70)

pub taken_over_is_durable : TakenOverIsDurable
taken_over_is_durable = (
  s17,
  (
    s1,
    (refl, refl),
    (
      s2,
      (refl, refl, some_front 10 [], refl),
      (
        s3,
        (refl, refl),
        (
          s4,
          (1, 0, 10 ∷ [], refl, refl),
          (
            s5,
            (refl, 10 ∷ [], Kept 10, refl, refl),
            (
              s6,
              (refl, refl, some_front 20 [], refl),
              (
                s7,
                (refl, refl),
                (
                  s8,
                  (refl, refl),
                  (
                    s9,
                    (1, 10, 20 ∷ [], refl, refl),
                    (
                      s10,
                      (omega arith, refl),
                      (
                        s10,
                        (omega arith, refl),
                        (
                          s12,
                          (inl refl, refl),
                          (
                            s13,
                            (refl, refl),
                            (
                              s14,
                              (refl, refl),
                              (
                                s15,
                                (refl, refl, some_front 40 [], refl),
                                (
                                  s16,
                                  (2, 30, 40 ∷ [], refl, refl),
                                  (
                                    s17,
                                    (refl, 40 ∷ [], Kept 70, refl, refl),
                                    refl,
                                  ),
                                ),
                              ),
                            ),
                          ),
                        ),
                      ),
                    ),
                  ),
                ),
              ),
            ),
          ),
        ),
      ),
    ),
  ),
  refl,
  refl,
  refl,
  refl,
)

abbrev l3 : State ℕ
l3 = crashed s2

abbrev l4 : State ℕ
l4 = fenced l3 2

abbrev l6 : State ℕ
l6 = tailed l4

pub too_late_is_lost : TooLateIsLost
too_late_is_lost = (
  swept itself l6,
  (
    s1,
    (refl, refl),
    (
      s2,
      (refl, refl, some_front 10 [], refl),
      (
        l3,
        (refl, refl),
        (
          l4,
          (omega arith, refl),
          (
            l4,
            (omega arith, refl),
            (
              l6,
              (inl refl, refl),
              (
                swept itself l6,
                (refl, refl),
                refl,
              ),
            ),
          ),
        ),
      ),
    ),
  ),
  refl,
  refl,
)
