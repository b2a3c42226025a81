-- The boxes are those of the shipped passes, in their order.
use Rattle.pass_law.proofs.Same.{SameMeaning-refl}
use Rattle.shipped_passes.proofs.Boxes.{boxes-shipped}
use Rattle.shipped_passes.proofs.lending.with_shipped_passes.Goals as goal

pub work-requires : goal.work-requires
work-requires g c =
    boxes-shipped _ _ _ c.as_mut_slice.ensures.value (
      _,
      c.into_dyn_box-trace.ensures.0,
      (λ p a x. SameMeaning-refl _),
      (
        _,
        c.into_dyn_box-ssa.ensures.0,
        (λ p a x. SameMeaning-refl _),
        (
          _,
          c.into_dyn_box-constant.ensures.0,
          (λ p a x. SameMeaning-refl _),
          (
            _,
            c.into_dyn_box-dead.ensures.0,
            (λ p a x. SameMeaning-refl _),
            (
              _,
              c.into_dyn_box-unssa.ensures.0,
              (λ p a x. SameMeaning-refl _),
              (
                _,
                c.into_dyn_box-merge.ensures.0,
                (λ p a x. SameMeaning-refl _),
                (
                  _,
                  c.into_dyn_box-tidy.ensures.0,
                  (λ p a x. SameMeaning-refl _),
                  (
                    _,
                    c.into_dyn_box-side.ensures.0,
                    (λ p a x. SameMeaning-refl _),
                    (
                      _,
                      c.into_dyn_box-color.ensures.0,
                      (λ p a x. SameMeaning-refl _),
                      tt,
                    ),
                  ),
                ),
              ),
            ),
          ),
        ),
      ),
    )
