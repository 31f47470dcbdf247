-- How large a record's numbers can be, as a test.
use Rattle.std.specs.Prelude.{Bool, ◌&&◌, nat_le, unsigned_abs}
use Rattle.observation.specs.declared.Record.{Record}

abbrev pub measured : Record → Bool
measured r =
    nat_le (unsigned_abs r.z_re) 8372232 && (nat_le (unsigned_abs r.z_im) 8372232 && (nat_le r.y_energy 8372232 && (nat_le r.h_energy 8372232 && nat_le r.weight 1023)))
