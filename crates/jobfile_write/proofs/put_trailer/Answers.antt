use mathlib.Core.Path.{refl}
use mathlib.Core.List.{[]}
use Rattle.bytes_le.proofs.Fields.{put_fields}
use Rattle.jobfile.specs.Format.{trailer_fields}
use Rattle.jobfile_write.proofs.put_trailer.Goals as goal

pub returns : goal.returns
returns c =
    let a = c.args in
    put_fields (trailer_fields a.q) [] a.out.now 0 refl refl (
      _,
      c.put.ensures,
      (
        _,
        c.put-2.ensures,
        (
          _,
          rw c.from.ensures at c.put-3.ensures,
          (
            _,
            c.put-4.ensures,
            (
              _,
              rw c.from-2.ensures at c.put-5.ensures,
              (_, c.put-6.ensures, refl),
            ),
          ),
        ),
      ),
    )
