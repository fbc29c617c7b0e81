-- What has to be believed: what the program prints of a file and a field's name.
pub mod Printed
-- What the functions promise.
pub mod Written
