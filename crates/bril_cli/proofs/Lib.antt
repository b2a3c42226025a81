mod Completeness
