mod Pieced
